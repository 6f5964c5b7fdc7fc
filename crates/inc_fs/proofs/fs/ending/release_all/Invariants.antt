use Rattle.std.proofs.Common.{◌≡◌, ◌++◌, map, take, drop}
use Rattle.inc_fs.specs.State.{released_file}
use Rattle.inc_fs.proofs.fs.ending.release_all.Given as goal

abbrev pub invariant-loop-file : goal.invariant-loop-file
invariant-loop-file l = l.files ≡ map (released_file l.handles.entries l.who) (take l.file-index l.initial.files) ++ drop l.file-index l.initial.files
