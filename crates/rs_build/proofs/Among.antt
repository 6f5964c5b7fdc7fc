-- A place among others.
use Rattle.std.proofs.Common.{◌≡◌, ℕ, Bool, List, [], ◌∷◌, refl, if◌then◌else◌}
use Rattle.std.specs.Prelude.{Some, is_some, ◌+◌, ◌||◌}
use Rattle.std.specs.List.{list_any}
use Rattle.rs_lookup.specs.Places.{Name, place_from, same}

pub among : (q : Name) (i : ℕ) (names : List Name) → is_some (place_from q i names) ≡ list_any (same q) names
among q i [] = refl
among q i (k ∷ ks) = by (same q k) (among q (i + 1) ks)
  where
    by : (b : Bool) → is_some (place_from q (i + 1) ks) ≡ list_any (same q) ks → is_some (if b then Some i else place_from q (i + 1) ks) ≡ (b || list_any (same q) ks)
    by Bool.true h = refl
    by Bool.false h = h
