use Rattle.std.proofs.Common.{refl, arith}
use Rattle.inc_proto.specs.Views.{left_by, left_after}
use Rattle.inc_proto.proofs.Anys.{fold_next}
use Rattle.inc_proto.proofs.clear.left_after.Goals as goal

pub loop-step-preserved : goal.loop-step-preserved
loop-step-preserved c =
    let krate = c.args.krate.now in
    let names = c.args.names.now in
    fold_next (λ ss. left_after krate ss names) (left_by krate) (λ s ss. refl) c.args.steps.now c.loop-step.step-index c.step-item.result
    c.loop-step.left c.leave_by.new.names (omega arith) c.step-item.is c.loop-step.invariant c.in_ok-leave_by.ensures
