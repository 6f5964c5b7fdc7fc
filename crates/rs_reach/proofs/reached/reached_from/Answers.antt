use Rattle.std.proofs.Common.{◌≡◌, ◌+◌, ℕ, Bool, List, length, ap, sym, ◌∙◌, Some}
use Rattle.std.specs.Borrow.{Bor}
use Rattle.std.specs.Option.{option_map}
use Rattle.std.proofs.lemmas.Result.{IfOk-weaker}
use Rattle.rs_reach.specs.Search.{added, start, walk}
use Rattle.rs_reach.specs.Places.{IsLeft}
use Rattle.rs_reach.specs.Reached.{every, named}
use Rattle.rs_reach.proofs.Onward.{reaches, reaches_none, of_none}
use Rattle.rs_reach.proofs.Together.{together}
use Rattle.rs_reach.proofs.reached.reached_from.Goals as goal

pub returns-in-None : goal.returns-in-None
returns-in-None c = λ b.
    of_none c.new-found.result.items b _ c.new-found.ensures.items
    (reaches_none c.args.names.now c.args.from b (sym c.its_names.ensures ∙ ap (option_map (λ (b : Bor (List ℕ)). b.now)) c.in-None.is))

pub returns : goal.returns
returns c =
    let its = c.args.names.now in
    let may = every its in
    let first = c.in-Some.first.now in
    let has : named its c.args.from ≡ Some first = sym c.its_names.ensures ∙ ap (option_map (λ (b : Bor (List ℕ)). b.now)) c.in-Some.is in
    let left = together (λ (m : List Bool) (l : List Bool) (f : List ℕ). IsLeft m l f) (c.deref.ensures.value ∙ c.in_ok-may.ensures) (λ i. c.in_ok-left.left.items) c.deref-2.ensures.value c.in_ok-left.ensures in
    let told = c.in_ok-tell-in-Some.ensures may left in
    IfOk-weaker c.follow.result _ _ (λ all h b. reaches its c.args.from b first all.items has
    (h may told.1 ∙ ap (λ (xs : List ℕ). (walk may (named its) (start xs) (length its + 1)).found) (told.0 ∙ ap (λ (xs : List ℕ). added may xs first) c.new-found.ensures.items))) c.follow.ensures
