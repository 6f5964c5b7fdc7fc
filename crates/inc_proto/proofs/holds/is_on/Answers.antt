use Rattle.std.proofs.Common.{arith}
use Rattle.inc_names.specs.Entries.{lock_text}
use Rattle.inc_proto.specs.Views.{opening}
use Rattle.inc_proto.specs.Sought.{IsOnBy}
use Rattle.inc_proto.proofs.Anys.{test_next}
use Rattle.inc_proto.proofs.holds.is_on.Goals as goal

pub loop-step-preserved : goal.loop-step-preserved
loop-step-preserved c =
    test_next (λ ss. IsOnBy c.args.way c.args.krate.now (lock_text c.args.n) (opening c.args.h ss)) c.args.steps.now c.loop-step.step-index c.step-item.result
    c.loop-step.on c.on_after-on.result (omega arith) c.step-item.is c.loop-step.invariant (λ ss was. c.on_after-on.ensures (opening c.args.h ss) was)
