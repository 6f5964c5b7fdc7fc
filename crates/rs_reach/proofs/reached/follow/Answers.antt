use Rattle.std.proofs.Common.{◌+◌, ◌≤◌, ℕ, List, length, ap, sym, ◌∙◌, arith}
use Rattle.std.specs.Prelude.{slice_get, option_and_then}
use Rattle.std.specs.Borrow.{Bor}
use Rattle.std.specs.Option.{option_map}
use Rattle.rs_reach.specs.Search.{start}
use Rattle.rs_reach.specs.Reached.{named}
use Rattle.rs_reach.proofs.Found.{stopped}
use Rattle.rs_reach.proofs.reached.follow.Goals as goal

pub returns-in-None : goal.returns-in-None
returns-in-None c = λ may left.
    (let known = named c.args.names.now in
    let next = c.next-item.ensures ∙ ap (λ (xs : List ℕ). slice_get xs c.steps.asked) c.deref.ensures.value in
    let none = ap (option_and_then known) (sym next) ∙ sym c.its_names.ensures ∙ ap (option_map (λ (b : Bor (List ℕ)). b.now)) c.in-None.is in
    let less : c.steps.asked ≤ length c.args.names.now + 1 = omega arith in
    (stopped may known (start c.args.found.items) c.steps.asked (length c.args.names.now + 1) c.steps.asked c.steps.found.items less (c.steps.invariant.found may left) (c.steps.invariant.asked may left) none).0)
