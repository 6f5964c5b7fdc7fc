use Rattle.std.proofs.Common.{ℕ, ◌+◌, ◌≤◌, List, length, ap, sym, ◌∙◌, arith}
use Rattle.std.specs.Prelude.{slice_get, option_and_then}
use Rattle.std.specs.Borrow.{Bor}
use Rattle.std.specs.Option.{option_map}
use Rattle.rs_reach.specs.Search.{start}
use Rattle.rs_reach.proofs.Found.{went_on, stopped}
use Rattle.rs_units.specs.Ready.{kept}
use Rattle.rs_units.proofs.known.follow.Goals as goal

pub steps-preserved : goal.steps-preserved
steps-preserved c =
    let may = c.args.marks.now in
    let its = kept c.args.known.now in
    let found = c.steps.found.items in
    let next = c.next-item.ensures ∙ ap (λ (xs : List ℕ). slice_get xs c.steps.asked) c.deref-in-steps.ensures.value in
    let calls = ap (option_and_then its) (sym next) ∙ sym c.its_calls.ensures ∙ ap (option_map (λ (b : Bor (List ℕ)). b.now)) c.in-Some.is in
    let on = went_on may its (start c.args.roots.items) c.steps.asked c.steps.asked found c.in-Some.called.now c.steps.invariant.found c.steps.invariant.asked calls in
    let told = c.in_ok-tell-in-Some.ensures may c.steps.invariant.left in
    record {
      counted = omega arith;
      found = told.0 ∙ on.0;
      asked = on.1;
      left = told.1;
    }

pub returns-in-None : goal.returns-in-None
returns-in-None c =
    let its = kept c.args.known.now in
    let next = c.next-item.ensures ∙ ap (λ (xs : List ℕ). slice_get xs c.steps.asked) c.deref-in-steps.ensures.value in
    let calls = ap (option_and_then its) (sym next) ∙ sym c.its_calls.ensures ∙ ap (option_map (λ (b : Bor (List ℕ)). b.now)) c.in-None.is in
    let less : c.steps.asked ≤ length c.args.marks.now + 1 = omega arith in
    let end = stopped c.args.marks.now its (start c.args.roots.items) c.steps.asked (length c.args.marks.now + 1) c.steps.asked c.steps.found.items less c.steps.invariant.found c.steps.invariant.asked calls in
    record { found = end.0; asked = end.1; left = c.steps.invariant.left }
