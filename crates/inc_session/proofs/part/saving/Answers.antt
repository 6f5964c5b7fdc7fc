use Rattle.inc_session.proofs.Pieces.{all_writes}
use Rattle.inc_session.proofs.part.saving.Goals as goal

pub invariant_of-result : goal.invariant_of-result
invariant_of-result c = record { writes = rw c.in-Ok.ensures (all_writes c.args.task.now c.args.its c.pairs.result.now) }
