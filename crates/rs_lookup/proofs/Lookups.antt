-- Maps from places to positions.
use Rattle.std.proofs.Common.{◌≡◌, ℕ, ◌+◌, ◌<◌, cond, ◌&&◌, List, length, get_or, drop, map, Some, refl, ◌∙◌, sym, nat_cmp, Ordering, Less, Equal, Greater}
use Rattle.std.specs.Ordering.{is_eq, ordering_then}
use Rattle.std.specs.Cmp.Lexicographic.{slice_cmp}
use Rattle.std.specs.BTreeMap.{BTreeMap, get, Updates}
use Rattle.std.proofs.lemmas.Map.Text.{is_eq-slice_cmp}
use Rattle.std.proofs.lemmas.Cmp.{nat_list_eq_equiv}
use Rattle.std.proofs.lemmas.List.{at_drop_more}
use Rattle.rs_tree.specs.Order.{place_cmp}
use Rattle.rs_tree.specs.declared.place.Place.{Place}
use Rattle.rs_lookup.specs.Places.{Name, same, place_from, place_name}
use Rattle.rs_lookup.specs.Keys.{Held, plain, held_cmp}

then_eq : (o p : Ordering) → is_eq (ordering_then o p) ≡ (is_eq o && is_eq p)
then_eq Less p = refl
then_eq Equal p = refl
then_eq Greater p = refl

-- the map's order tells places apart as they are
pub held_is_eq : (a b : Held) → is_eq (held_cmp a b) ≡ same (plain a) (plain b)
held_is_eq a b = then_eq (slice_cmp nat_cmp a.0.now b.0.now) (slice_cmp nat_cmp a.1.now b.1.now)
    ∙ (λ i. is_eq-slice_cmp a.0.now b.0.now i && is_eq-slice_cmp a.1.now b.1.now i)

pub same_symm : (a b : Name) → same a b ≡ same b a
same_symm a b = λ i. nat_list_eq_equiv.symm a.0 b.0 i && nat_list_eq_equiv.symm a.1 b.1 i

-- the order of places as they stand in maps tells them apart too
pub place_is_eq : (a b : Place) → is_eq (place_cmp a b) ≡ same (place_name a) (place_name b)
place_is_eq a b = then_eq (slice_cmp nat_cmp a.«module» b.«module») (slice_cmp nat_cmp a.name b.name)
    ∙ (λ i. is_eq-slice_cmp a.«module» b.«module» i && is_eq-slice_cmp a.name b.name i)

-- one more key, before those that the map has
module _ {K : Type 0} (order : K → K → Ordering) (name_of : K → Name) (tells : (a b : K) → is_eq (order a b) ≡ same (name_of a) (name_of b)) where
  pub placed : (m n : BTreeMap K ℕ) (keys : List K) (i : ℕ) (d : K) → i < length keys → Updates order m n (get_or keys i d) (Some i)
      → ((q : K) → get order m q ≡ place_from (name_of q) (i + 1) (map name_of (drop (i + 1) keys))) → (q : K) → get order n q ≡ place_from (name_of q) i (map name_of (drop i keys))
  placed m n keys i d l up has q =
      let k = get_or keys i d in
      up.0 q
      ∙ (λ j. cond ((tells k q ∙ same_symm (name_of k) (name_of q)) j) (Some i) (has q j))
      ∙ sym (at_drop_more (λ ks. place_from (name_of q) i (map name_of ks)) keys i d l)
