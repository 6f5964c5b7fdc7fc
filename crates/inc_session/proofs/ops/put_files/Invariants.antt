use Rattle.std.proofs.Common.{◌≡◌, ◌++◌, take}
use Rattle.inc_names.specs.Entries.{working_text}
use Rattle.inc_session.specs.Saving.{saving_ops}
use Rattle.inc_session.proofs.ops.put_files.Given as goal

abbrev pub invariant-loop-file : goal.invariant-loop-file
invariant-loop-file l = l.ops ≡ l.initial.ops ++ saving_ops l.task.krate (working_text l.its) (take l.file-index l.files)
