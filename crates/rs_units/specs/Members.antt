-- The members of a unit, and the next function whose calls they hang on (docs/FORMATS.md, "Units").
use Rattle.std.specs.Prelude.{ℕ, ◌==◌, Bool, nat_eq, List, ◌++◌, filter, Option, slice_get, option_and_then}
use Rattle.std.specs.Option.{option_map}
use Rattle.std.specs.List.{list_any}
use Rattle.rs_tree.specs.declared.place.Place.{Place}
use Rattle.rs_tree.specs.declared.index.IndexItem.{IndexItem}
use Rattle.rs_reach.specs.Search.{State, next}
use Rattle.rs_reach.specs.Dead.{numbers_where, place_of, search}
use Rattle.rs_reach.specs.Calls.{places_at}
use Rattle.rs_units.specs.Units.{is_own}

-- an item is a function of kind 2, which each unit that calls it has a copy of
abbrev pub is_inline : IndexItem → Bool
is_inline x = x.kind == 2

-- the search from a unit's own functions, in index order, through functions of kind 2
abbrev pub search_of : List ℕ → List IndexItem → List (Place × List Place) → State
search_of unit items calls = search (is_own unit) is_inline items calls

abbrev pub is_among : List ℕ → ℕ → Bool
is_among found i = list_any (nat_eq i) found

-- the numbers of a unit's members: its own functions, then the functions of kind 2 that the search found, both
-- in index order
abbrev pub member_numbers : List ℕ → List IndexItem → List (Place × List Place) → List ℕ
member_numbers unit items calls = numbers_where (is_own unit) 0 items ++ filter (is_among (search_of unit items calls).found) (numbers_where is_inline 0 items)

abbrev pub members_of : List ℕ → List IndexItem → List (Place × List Place) → List Place
members_of unit items calls = places_at items (member_numbers unit items calls)

abbrev pub place_numbered : List IndexItem → ℕ → Option Place
place_numbered items i = option_map place_of (slice_get items i)

-- the first function, in the order found, whose calls are missing
abbrev pub wanted_of : List ℕ → List IndexItem → List (Place × List Place) → Option Place
wanted_of unit items calls = option_and_then (place_numbered items) (next (search_of unit items calls))
