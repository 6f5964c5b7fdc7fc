use Rattle.std.proofs.Common.{ℕ, List, ◌++◌, ◌∷◌, [], map, ap, sym, subst, ◌∙◌}
use Rattle.std.specs.Prelude.{slice_get, option_and_then}
use Rattle.std.proofs.lemmas.Result.{IfOk-weaker}
use Rattle.rs_tree.specs.declared.place.Place.{Place}
use Rattle.rs_lookup.specs.Places.{Name}
use Rattle.rs_reach.specs.Dead.{numbers_where}
use Rattle.rs_reach.specs.Search.{next}
use Rattle.rs_provider.specs.Searches.{begins_with, may_find}
use Rattle.rs_provider.specs.Walks.{IsWalk, state_of}
use Rattle.rs_provider.proofs.Going.{named_next, roots_of}
use Rattle.rs_provider.proofs.Together.{together}
use Rattle.rs_provider.proofs.search.walked.Goals as goal

pub returns : goal.returns
returns c =
    let index = c.args.index.now in
    let walk = c.args.walk in
    let names = c.places-places.ensures in
    IfOk-weaker c.with_calls.result _ _
    (λ w goes s calls wanted is.
    (let may = map (may_find s) index.items in
    let roots = numbers_where (begins_with s) 0 index.items in
    let there = subst (λ (ns : List Name). IsWalk ns may roots calls walk) (sym names) is.there in
    let named = ap (λ (ns : List Name). option_and_then (slice_get ns) (next (state_of walk.reached))) names ∙ named_next s index calls walk wanted is in
    together (λ (ns : List Name) (ps : List Place) (u : List ℕ). IsWalk ns may roots (calls ++ (wanted, ps) ∷ []) w) names c.as_slice.ensures.value (λ j. roots) (goes may roots calls wanted (roots_of s index.items) there named)))
    c.with_calls.ensures
