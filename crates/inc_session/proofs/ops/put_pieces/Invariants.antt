use Rattle.std.proofs.Common.{◌≡◌, ◌++◌, map, length}
use Rattle.inc_fs.specs.declared.op.Op.TheVariants.{Append}
use Rattle.inc_names.specs.Entries.{working_text}
use Rattle.inc_session.specs.Saving.{pieces}
use Rattle.inc_session.proofs.ops.put_pieces.Given as goal

abbrev pub invariant-pieces : goal.invariant-pieces
invariant-pieces l =
    l.ops ++ map (Append l.task.krate (working_text l.its) l.file) (pieces l.rest) ≡ l.initial.ops ++ map (Append l.task.krate (working_text l.its) l.file) (pieces l.bytes)

abbrev pub decreases-pieces : goal.decreases-pieces
decreases-pieces l = length l.rest
