use Rattle.std.proofs.Common.{refl, sym, ◌∙◌, subst, arith}
use Rattle.std.proofs.lemmas.Bool.{false≢true}
use Rattle.inc_proto.specs.Sought.{IsSought}
use Rattle.inc_proto.proofs.Anys.{any_at, none_more}
use Rattle.inc_proto.proofs.sought.has.Goals as goal

pub returns-then-is_sought : goal.returns-then-is_sought
returns-then-is_sought c =
    let P = IsSought c.args.sought in
    (λ yes. any_at P c.args.steps.now c.loop-step.step-index c.step-item.result (omega arith) (subst P c.step-item.is (c.is_sought.ensures.0 c.if-is_sought.true)), λ is. refl)

pub loop-step-preserved : goal.loop-step-preserved
loop-step-preserved c =
    let P = IsSought c.args.sought in
    none_more P c.args.steps.now c.loop-step.step-index c.step-item.result (omega arith) c.loop-step.invariant
    (λ is. false≢true (sym c.if-is_sought.false ∙ c.is_sought.ensures.1 (subst P (sym c.step-item.is) is)))
