-- A search by its walk.
use Rattle.std.proofs.Common.{◌≡◌, ℕ, ◌&&◌, false, not, nat_eq, List, ◌++◌, sym, ap, subst, ◌∙◌}
use Rattle.std.specs.Prelude.{filter, slice_index_or, option_and_then}
use Rattle.std.specs.List.{list_any}
use Rattle.rs_tree.specs.declared.index.Index.{Index}
use Rattle.rs_tree.specs.declared.place.Place.{Place}
use Rattle.rs_reach.specs.Calls.{places_at}
use Rattle.rs_reach.specs.Dead.{dead_of, is_function, is_silent, numbers_where, places_where}
use Rattle.rs_reach.specs.Search.{State, next}
use Rattle.rs_units.specs.Members.{is_among, is_inline, members_of, place_numbered}
use Rattle.rs_units.specs.Units.{is_own}
use Rattle.rs_units.proofs.Numbers.{not_left}
use Rattle.rs_provider.specs.Searches.{IsThere, begins_with, found_by, wanted_by}
use Rattle.rs_provider.specs.Walks.{state_of}
use Rattle.rs_provider.specs.declared.state.Search.{Search}
use Rattle.rs_provider.specs.declared.state.Search.TheVariants as kind
use Rattle.rs_provider.specs.declared.walk.Walk.{Walk}
use Rattle.rs_provider.proofs.Remains.{left_where}

-- what is wanted is the next
pub wanted_is : (s : Search) (index : Index) (calls : List (Place × List Place)) (w : Walk) → IsThere s index.items calls w → option_and_then (place_numbered index.items) (next (state_of w.reached)) ≡ wanted_by s index calls
wanted_is kind.Dead index calls w is = ap (λ (t : State). option_and_then (place_numbered index.items) (next t)) is.reached
wanted_is (kind.Members unit) index calls w is = ap (λ (t : State). option_and_then (place_numbered index.items) (next t)) is.reached

-- functions that are left
at_dead : (index : Index) (calls : List (Place × List Place)) (w : Walk) (ps : List Place) → IsThere kind.Dead index.items calls w
    → ps ≡ places_where (λ i x. is_function x && slice_index_or w.reached.left.items i false && not (is_silent x)) 0 index.items → ps ≡ dead_of index.items calls
at_dead index calls w ps is gives =
    gives
    ∙ left_where is_function (λ x. not (is_silent x)) index.items w.reached.left.items w.reached.found.items is.left
    ∙ ap (λ (t : State). places_where (λ i x. is_function x && not (list_any (nat_eq i) t.found) && not (is_silent x)) 0 index.items) is.reached

pub dead_found : (s : Search) (index : Index) (calls : List (Place × List Place)) (w : Walk) (ps : List Place) → s ≡ kind.Dead → IsThere s index.items calls w
    → ps ≡ places_where (λ i x. is_function x && slice_index_or w.reached.left.items i false && not (is_silent x)) 0 index.items → ps ≡ found_by s index calls
dead_found s index calls w ps e is gives = subst (λ (t : Search). IsThere t index.items calls w → ps ≡ found_by t index calls) (sym e) (λ there. at_dead index calls w ps there gives) is

-- own functions, and inline ones that aren't left
at_members : (unit : List ℕ) (index : Index) (calls : List (Place × List Place)) (w : Walk) (ns : List ℕ) → IsThere (kind.Members unit) index.items calls w
    → ns ≡ numbers_where (is_own unit) 0 index.items ++ filter (λ i. not (slice_index_or w.reached.left.items i false)) (numbers_where is_inline 0 index.items) → places_at index.items ns ≡ members_of unit index.items calls
at_members unit index calls w ns is gives =
    ap (places_at index.items)
    (gives
    ∙ ap (λ (xs : List ℕ). numbers_where (is_own unit) 0 index.items ++ xs)
    (not_left index.items w.reached.left.items w.reached.found.items is.left
    ∙ ap (λ (t : State). filter (is_among t.found) (numbers_where is_inline 0 index.items)) is.reached))

pub members_found : (s : Search) (unit : List ℕ) (index : Index) (calls : List (Place × List Place)) (w : Walk) (ns : List ℕ) → s ≡ kind.Members unit → IsThere s index.items calls w
    → ns ≡ numbers_where (begins_with s) 0 index.items ++ filter (λ i. not (slice_index_or w.reached.left.items i false)) (numbers_where is_inline 0 index.items) → places_at index.items ns ≡ found_by s index calls
members_found s unit index calls w ns e is gives =
    subst (λ (t : Search). IsThere t index.items calls w → ns ≡ numbers_where (begins_with t) 0 index.items ++ filter (λ i. not (slice_index_or w.reached.left.items i false)) (numbers_where is_inline 0 index.items) → places_at index.items ns ≡ found_by t index calls) (sym e) (at_members unit index calls w ns) is gives
