use Rattle.std.proofs.Common.{refl, arith}
use Rattle.inc_proto.specs.Views.{dir, dir_after}
use Rattle.inc_proto.proofs.Anys.{fold_next}
use Rattle.inc_proto.proofs.own_dir.own_dir.Goals as goal

pub loop-step-preserved : goal.loop-step-preserved
loop-step-preserved c =
    fold_next dir dir_after (λ s ss. refl) c.args.steps.now c.loop-step.step-index c.step-item.result c.loop-step.own c.in_ok-own.own (omega arith) c.step-item.is
    c.loop-step.invariant c.in_ok-own.ensures
