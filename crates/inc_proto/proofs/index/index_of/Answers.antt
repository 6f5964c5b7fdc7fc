use Rattle.std.proofs.Common.{arith}
use Rattle.inc_proto.proofs.Indexed.{indexed_next}
use Rattle.inc_proto.proofs.index.index_of.Goals as goal

pub loop-at-preserved : goal.loop-at-preserved
loop-at-preserved c =
    indexed_next c.args.steps.now c.loop-at.at c.index-steps-at.result c.loop-at.index c.in_ok-index.index (omega arith) c.index-steps-at.is c.loop-at.invariant
    c.in_ok-index.ensures
