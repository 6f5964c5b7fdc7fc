use Rattle.std.proofs.Common.{rules}
use Rattle.std.proofs.lemmas.List.Edits.{map_over_more}
use Rattle.inc_fs.specs.State.{released_file}
use Rattle.inc_fs.proofs.fs.ending.release_all.Goals as goal

pub loop-file-preserved : goal.loop-file-preserved
loop-file-preserved c =
    rw (c.released.ensures, c.replace-lock.ensures.value, ← c.file-item.is)
    (map_over_more (released_file c.args.handles.now.entries c.args.who) _ _ _ c.file-item.result (search rules) c.loop-file.invariant c.file-item.is)
