use Rattle.std.proofs.Common.{sym, subst, reverse, arith}
use Rattle.std.proofs.lemmas.Bool.{false≢true}
use Rattle.std.proofs.lemmas.List.{take_all}
use Rattle.inc_names.specs.Entries.{lock_text}
use Rattle.inc_proto.specs.Views.{HasAny}
use Rattle.inc_proto.specs.Sought.{IsGiven}
use Rattle.inc_proto.proofs.Anys.{none_more}
use Rattle.inc_proto.proofs.Given.{on_given}
use Rattle.inc_proto.proofs.holds.holds_and.Goals as goal

-- goal names as far as they can be foreseen: `if gives_hold(..)? {` has the arm `in_ok-gives_hold`
pub loop-step-preserved : goal.loop-step-preserved
loop-step-preserved c = λ h after holds answers.
    none_more (IsGiven c.args.krate.now (lock_text c.args.n) h) c.args.steps.now c.loop-step.step-index c.step-item.result (omega arith) (c.loop-step.invariant h after holds answers)
    (λ is. c.in_ok-gives_hold.ensures.no c.if-branch.false h after (subst (IsGiven c.args.krate.now (lock_text c.args.n) h) (sym c.step-item.is) is) holds answers)

pub returns : goal.returns
returns c =
    let xs = c.args.steps.now in (
      λ yes. absurd (false≢true yes),
      λ w. absurd (c.loop-step.invariant w.0 w.1 w.2 w.3
          (subst (λ ys. HasAny (IsGiven c.args.krate.now (lock_text c.args.n) w.0) (reverse ys)) (sym (take_all c.loop-step.step-index xs (omega arith)))
          (on_given c.args.way c.args.krate.now (lock_text c.args.n) w.0 (reverse xs) w.2.0))),
    )
