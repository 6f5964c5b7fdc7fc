-- Places in order, as they are kept for look-ups.
use Rattle.std.specs.Prelude.{◌≡◌, ℕ, suc, Bool, false, cond, List, [], ◌∷◌, Option, Some, None}
use Rattle.std.specs.BTreeMap.{is_at}
use Rattle.std.specs.List.Sorted.{IsStrictlySortedBy}
use Rattle.std.specs.Map.{keys_of, lookup}
use Rattle.std.specs.Ordering.{is_eq, is_lt}
use Rattle.std.specs.declared.cmp.Ordering.{Ordering}
use Rattle.rs_tree.specs.Order.{place_cmp}
use Rattle.rs_tree.specs.declared.place.Place.{Place}
use Rattle.rs_lookup.specs.Keys.{Held}
use Rattle.rs_lookup.specs.Places.{Name, place_from, place_name}

abbrev pub held : Held → Place
held k = record { «module» = k.0.now; name = k.1.now }

-- each place stands before those after it, and is led to the first that is equal
pub record IsOrder (first : List (Place × ℕ)) (names : List Name) : Type 0 where
  pub sorted : IsStrictlySortedBy place_cmp (keys_of first)
  pub leads : (q : Place) → lookup (is_at (place_cmp q)) first ≡ place_from (place_name q) 0 names

-- how many of the first keys stand before this one
abbrev pub place_in : {K V : Type 0} → (K → K → Ordering) → K → List (K × V) → ℕ
place_in order key [] = 0
place_in order key (p ∷ ps) = cond (is_lt (order p.0 key)) (suc (place_in order key ps)) 0

-- whether a pair is the key's
abbrev pub is_keyed : {K V : Type 0} → (K → K → Ordering) → K → Option (K × V) → Bool
is_keyed order key None = false
is_keyed order key (Some p) = is_eq (order key p.0)
