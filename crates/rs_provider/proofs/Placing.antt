-- The item of a name stands at the name's place among those of a text.
use Rattle.std.proofs.Common.{◌≡◌, ℕ, ◌+◌, suc, Bool, true, false, if◌then◌else◌, List, [], ◌∷◌, map, Option, Some, None, refl, ap, ◌∙◌, arith}
use Rattle.std.specs.Prelude.{option_and_then, slice_get}
use Rattle.std.specs.Option.{option_map, option_map_or}
use Rattle.rs_tree.specs.declared.tree.Item.{Item}
use Rattle.rs_tree.specs.declared.tree.Placed.{Placed}
use Rattle.rs_lookup.specs.Places.{Name, place_from, same}
use Rattle.rs_forms.specs.Forms.{item_form}
use Rattle.rs_plans.specs.Plans.{item_in_place, item_value}
use Rattle.rs_queries.specs.Reading.{what_was_read}
use Rattle.rs_queries.specs.declared.reading.Reading.{Reading}
use Rattle.rs_queries.specs.declared.reading.Reading.TheVariants.{Tree, Fault}
use Rattle.rs_provider.specs.Readied.{item_read, placed_name}

counted : (q : Name) (i : ℕ) (names : List Name) → place_from q (i + 1) names ≡ option_map suc (place_from q i names)
counted q i [] = refl
counted q i (k ∷ ks) = by (same q k) (counted q (i + 1) ks)
  where
    by : (b : Bool) → place_from q (i + 1 + 1) ks ≡ option_map suc (place_from q (i + 1) ks) → (if b then Some (i + 1) else place_from q (i + 1 + 1) ks) ≡ option_map suc (if b then Some i else place_from q (i + 1) ks)
    by true more = ap Some (omega arith)
    by false more = more

abbrev at_place : List Placed → Option ℕ → Option Item
at_place items o = option_map (λ (p : Placed). p.item) (option_and_then (slice_get items) o)

item_found : (q : Name) (items : List Placed) → at_place items (place_from q 0 (map placed_name items)) ≡ item_in_place q items
item_found q [] = refl
item_found q (x ∷ xs) = by (same q (placed_name x)) (item_found q xs)
  where
    through : (o : Option ℕ) → at_place (x ∷ xs) (option_map suc o) ≡ at_place xs o
    through None = refl
    through (Some j) = refl

    by : (b : Bool) → at_place xs (place_from q 0 (map placed_name xs)) ≡ item_in_place q xs → at_place (x ∷ xs) (if b then Some 0 else place_from q (0 + 1) (map placed_name xs)) ≡ (if b then Some x.item else item_in_place q xs)
    by true more = refl
    by false more = ap (at_place (x ∷ xs)) (counted q 0 (map placed_name xs)) ∙ through (place_from q 0 (map placed_name xs)) ∙ more

-- by a look-up among the names
pub placed_by : (q : Name) (items : List Placed) (names : List Name) (o : Option ℕ) → o ≡ place_from q 0 names → names ≡ map placed_name items → at_place items o ≡ item_in_place q items
placed_by q items names o at are = ap (at_place items) (at ∙ ap (place_from q 0) are) ∙ item_found q items

-- what is said of the item of a text that was read
pub value_read : (name : Name) (r : Reading) → option_map_or item_form (item_read name r) [] ≡ item_value name (what_was_read r)
value_read name (Tree krate) = refl
value_read name (Fault fault) = refl
