-- The item of a name stands at the name's place.
use Rattle.std.proofs.Common.{◌≡◌, ℕ, ◌+◌, suc, Bool, true, false, if◌then◌else◌, List, [], ◌∷◌, map, Option, Some, None, refl, ap, ◌∙◌, arith}
use Rattle.std.specs.Prelude.{option_and_then, slice_get}
use Rattle.std.specs.Option.{option_map}
use Rattle.rs_tree.specs.declared.index.IndexItem.{IndexItem}
use Rattle.rs_lookup.specs.Places.{Name, item_name, place_from, same}
use Rattle.rs_names.specs.Resolved.{item_at}

counted : (q : Name) (i : ℕ) (names : List Name) → place_from q (i + 1) names ≡ option_map suc (place_from q i names)
counted q i [] = refl
counted q i (k ∷ ks) = by (same q k) (counted q (i + 1) ks)
  where
    by : (b : Bool) → place_from q (i + 1 + 1) ks ≡ option_map suc (place_from q (i + 1) ks) → (if b then Some (i + 1) else place_from q (i + 1 + 1) ks) ≡ option_map suc (if b then Some i else place_from q (i + 1) ks)
    by true more = ap Some (omega arith)
    by false more = more

pub item_found : (q : Name) (items : List IndexItem) → option_and_then (slice_get items) (place_from q 0 (map item_name items)) ≡ item_at q items
item_found q [] = refl
item_found q (x ∷ xs) = by (same q (item_name x)) (item_found q xs)
  where
    through : (o : Option ℕ) → option_and_then (slice_get (x ∷ xs)) (option_map suc o) ≡ option_and_then (slice_get xs) o
    through None = refl
    through (Some j) = refl

    by : (b : Bool) → option_and_then (slice_get xs) (place_from q 0 (map item_name xs)) ≡ item_at q xs → option_and_then (slice_get (x ∷ xs)) (if b then Some 0 else place_from q (0 + 1) (map item_name xs)) ≡ (if b then Some x else item_at q xs)
    by true more = refl
    by false more = ap (option_and_then (slice_get (x ∷ xs))) (counted q 0 (map item_name xs)) ∙ through (place_from q 0 (map item_name xs)) ∙ more

-- by a look-up among the names
pub found_by : (q : Name) (items : List IndexItem) (names : List Name) (o : Option ℕ) → o ≡ place_from q 0 names → names ≡ map item_name items → option_and_then (slice_get items) o ≡ item_at q items
found_by q items names o at are = ap (option_and_then (slice_get items)) (at ∙ ap (place_from q 0) are) ∙ item_found q items
