use Rattle.std.proofs.Common.{arith}
use Rattle.inc_proto.specs.Views.{IsStanding}
use Rattle.inc_proto.proofs.Anys.{test_next}
use Rattle.inc_proto.proofs.standing.is_standing.Goals as goal

pub loop-step-preserved : goal.loop-step-preserved
loop-step-preserved c =
    test_next (IsStanding c.args.krate.now c.args.entry.now) c.args.steps.now c.loop-step.step-index c.step-item.result
    c.loop-step.stands c.stands_after-stands.result (omega arith) c.step-item.is c.loop-step.invariant c.stands_after-stands.ensures
