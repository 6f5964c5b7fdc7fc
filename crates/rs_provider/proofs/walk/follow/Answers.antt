use Rattle.std.proofs.Common.{ℕ, ◌+◌, ◌≤◌, List, length, ap, sym, ◌∙◌, arith}
use Rattle.std.specs.Prelude.{slice_get, option_and_then}
use Rattle.std.specs.Borrow.{Bor}
use Rattle.std.specs.Option.{option_map}
use Rattle.rs_units.specs.Ready.{kept}
use Rattle.rs_provider.specs.Walks.{first_named, held, state_of}
use Rattle.rs_reach.proofs.Found.{stopped}
use Rattle.rs_provider.proofs.Further.{asked_within, held_then}
use Rattle.rs_provider.proofs.walk.follow.Goals as goal

pub returns-in-None : goal.returns-in-None
returns-in-None c = λ may left.
    (let names = c.args.places.now in
    let its = c.args.known.now in
    let next = c.next.ensures ∙ ap (λ (xs : List ℕ). slice_get xs c.steps.asked) c.deref.ensures.value in
    let none = sym (ap (option_and_then (kept its)) (c.first_named-at.ensures ∙ ap (option_and_then (first_named names)) next) ∙ held_then names its (slice_get c.steps.found.items c.steps.asked))
    ∙ sym c.kept_calls.ensures ∙ ap (option_map (λ (b : Bor (List ℕ)). b.now)) c.in-None.is in
    let less : c.steps.counter ≤ length its + 1 = omega arith in
    let end = stopped may (held names its) (state_of c.args.reached) c.steps.counter (length its + 1) c.steps.asked c.steps.found.items less (c.steps.invariant.found may left) (c.steps.invariant.asked may left) none in
    (λ j. record { found = end.0 j; asked = end.1 j }, c.steps.invariant.left may left))

pub overflow_add-asked : goal.overflow_add-asked
overflow_add-asked c =
    let names = c.args.places.now in
    let its = c.args.known.now in
    let next = c.next.ensures ∙ ap (λ (xs : List ℕ). slice_get xs c.steps.asked) c.deref.ensures.value in
    let some = sym (ap (option_and_then (kept its)) (c.first_named-at.ensures ∙ ap (option_and_then (first_named names)) next) ∙ held_then names its (slice_get c.steps.found.items c.steps.asked))
    ∙ sym c.kept_calls.ensures ∙ ap (option_map (λ (b : Bor (List ℕ)). b.now)) c.in-Some.is in
    let low = asked_within names its c.steps.found.items c.steps.asked c.in-Some.called.now some in
    omega (arith, low, c.steps.found.ok)
