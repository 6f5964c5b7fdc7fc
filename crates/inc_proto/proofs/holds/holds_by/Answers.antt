use Rattle.std.proofs.Common.{sym, ◌∙◌, subst, reverse, drop, IfOk, IsTrue, ◌↔◌}
use Rattle.std.proofs.lemmas.Bool.{false≢true}
use Rattle.inc_proto.specs.Sought.{Answers}
use Rattle.inc_proto.proofs.Anys.{rest_whole}
use Rattle.inc_proto.proofs.Given.{held_answers, not_held}
use Rattle.inc_proto.proofs.holds.holds_by.Goals as goal

pub returns-else-is_on : goal.returns-else-is_on
returns-else-is_on c = (λ t. absurd (false≢true t), λ w. absurd (false≢true (sym c.if-is_on.false ∙ c.is_on.ensures.1 w.1.0)))

pub returns-in-Some : goal.returns-in-Some
returns-in-Some c =
    let xs = c.args.steps.now in
    let from = c.in-Some.from in
    let r = c.answers.result in
    held_answers c.args.way c.args.krate.now c.args.n (reverse xs) c.args.h c.args.question (reverse (drop from xs))
    (c.is_on.ensures.0 c.if-is_on.true) c.in-Some.ensures.held r
    (subst (λ ys. IfOk r (λ yes. IsTrue yes ↔ Answers c.args.question (reverse ys))) (rest_whole from xs) c.answers.ensures)

pub returns-in-None : goal.returns-in-None
returns-in-None c = not_held c.args.way c.args.krate.now c.args.n (reverse c.args.steps.now) c.args.h c.args.question c.in-None.ensures.held
