-- The items of an index by number, and what they call.
use Rattle.std.specs.Prelude.{◌≡◌, ℕ, Bool, false, List, Option, slice_get, slice_index_or, option_and_then, map}
use Rattle.std.specs.Option.{option_map}
use Rattle.std.specs.List.{filter_map}
use Rattle.rs_tree.specs.declared.place.Place.{Place}
use Rattle.rs_lookup.specs.Places.{Name, place_name, place_from}
use Rattle.rs_reach.specs.Search.{is_new}

-- the numbers of places; what is no item is passed over
abbrev pub numbers : List Name → List Place → List ℕ
numbers names ps = filter_map (λ p. place_from (place_name p) 0 names) ps

abbrev pub call_names : List (Place × List Place) → List Name
call_names calls = map (λ (c : Place × List Place). place_name c.0) calls

-- what is known of the calls at a place: the first entry counts
abbrev pub calls_at : List (Place × List Place) → Name → Option (List Place)
calls_at calls k = option_and_then (λ j. option_map (λ (c : Place × List Place). c.1) (slice_get calls j)) (place_from k 0 (call_names calls))

-- the numbers of the functions that the item with this number calls, where that is known
abbrev pub ask : List Name → List (Place × List Place) → ℕ → Option (List ℕ)
ask names calls i = option_map (numbers names) (option_and_then (calls_at calls) (slice_get names i))

-- of each number, whether it may be found and isn't yet
pub record IsLeft (may left : List Bool) (found : List ℕ) : Type 0 where
  pub each : (c : ℕ) → slice_index_or left c false ≡ is_new may found c
