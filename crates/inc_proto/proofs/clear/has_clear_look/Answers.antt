use Rattle.std.proofs.Common.{◌≤◌, ◌+◌, refl, sym, ◌∙◌, subst, reverse, length, arith}
use Rattle.std.proofs.lemmas.Bool.{false≢true}
use Rattle.std.proofs.Math.ListN.{drop_of_length-le}
use Rattle.inc_proto.specs.Clears.{IsClearLook}
use Rattle.inc_proto.proofs.Anys.{rest_whole}
use Rattle.inc_proto.proofs.Cleared.{HasClearIn, clear_in, clear_found, clear_next}
use Rattle.inc_proto.proofs.clear.has_clear_look.Goals as goal

pub loop-at-init : goal.loop-at-init
loop-at-init c = clear_in c.args.krate.now c.args.n c.args.steps.now

pub loop-at-preserved : goal.loop-at-preserved
loop-at-preserved c = λ has.
    let krate = c.args.krate.now in
    let xs = c.args.steps.now in
    let item = c.index-steps-at.result in
    clear_next krate c.args.n xs c.loop-at.at item (omega arith) c.index-steps-at.is
    (λ is. false≢true (sym c.if-branch.false
    ∙ c.in_ok-is_clear_look.ensures.1 (subst (λ ys. IsClearLook krate c.args.n item (reverse ys)) (sym (rest_whole (c.loop-at.at + 1) xs)) is)))
    (c.loop-at.invariant has)

pub returns-then-branch : goal.returns-then-branch
returns-then-branch c =
    let krate = c.args.krate.now in
    let xs = c.args.steps.now in
    let item = c.index-steps-at.result in (
      λ yes. clear_found krate c.args.n xs c.loop-at.at item (omega arith) c.index-steps-at.is
          (subst (λ ys. IsClearLook krate c.args.n item (reverse ys)) (rest_whole (c.loop-at.at + 1) xs) (c.in_ok-is_clear_look.ensures.0 c.if-branch.true)),
      λ w. refl,
    )

pub returns : goal.returns
returns c =
    let xs = c.args.steps.now in
    let past : length xs ≤ c.loop-at.at = omega arith in (
      λ yes. absurd (false≢true yes),
      λ w. absurd (subst (HasClearIn c.args.krate.now c.args.n) (drop_of_length-le xs past) (c.loop-at.invariant w)),
    )
