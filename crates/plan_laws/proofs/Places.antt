-- Places of an index's items, with numbers that differ, are read back from their form.
use Rattle.std.proofs.Common.{◌≡◌, ℕ, zero, suc, ◌<◌, ◌≤◌, ◌||◌, nat_eq, Bool, true, false, not, List, [], ◌∷◌, ◌++◌, length, map, refl, sym, ap, ◌∙◌, subst, arith, eq-eqb}
use Rattle.std.specs.Prelude.{Option, Some, None, slice_get}
use Rattle.std.specs.List.{AllByRecursion, IsDistinct, list_all}
use Rattle.std.specs.Option.{option_map, option_to_list}
use Rattle.std.proofs.lemmas.Bool.{false_from_ne_true}
use Rattle.std.proofs.lemmas.List.Elements.{All-contains}
use Rattle.std.proofs.lemmas.Map.Keys.{IsDistinct-head, IsDistinct-tail}
use Rattle.std.proofs.lemmas.Map.Steps.{length-le_from_distinct_below}
use Rattle.std.proofs.lemmas.Map.Views.{Contains-from_any, exact_unsigned_eq}
use Rattle.inc_wire.specs.Fits.{Each}
use Rattle.inc_wire.specs.Narrow.{read_back}
use Rattle.rs_tree.specs.declared.index.Index.{Index}
use Rattle.rs_tree.specs.declared.index.IndexItem.{IndexItem}
use Rattle.rs_tree.specs.declared.place.Place.{Place}
use Rattle.rs_tree.proofs.Both.{left_of, right_of}
use Rattle.rs_forms.specs.Fits.{FitsIndex, FitsIndexItem, FitsPlace}
use Rattle.rs_answers.specs.Fits.{FitsPlaces}
use Rattle.rs_answers.specs.Forms.{places_form}
use Rattle.rs_answers.proofs.Seeks.{answers_are_answered}
use Rattle.rs_lookup.specs.Places.{item_name, same}
use Rattle.rs_reach.specs.Calls.{places_at}
use Rattle.rs_reach.specs.Dead.{place_of}
use Rattle.rs_units.specs.Laws.{AreNumbers}
use Rattle.rs_plans.specs.Names.{are_new, are_places, is_among, is_index, is_item_place, is_module, is_place}
use Rattle.rs_plans.specs.Readings.{places_in}
use Rattle.rs_plans.proofs.Fresh.{same_is}
use Rattle.link_laws.proofs.Lists.{Once}
use Rattle.link_laws.proofs.Places.{got_map}
use Rattle.plan_laws.proofs.Index.{passes}
use Rattle.plan_laws.proofs.Tests.{all_pass, both}

each_item : (items : List IndexItem) → Each FitsIndexItem items → (i : ℕ) (x : IndexItem) → slice_get items i ≡ Some x → FitsIndexItem x
each_item [] h i x e = absurd (cc)
each_item (y ∷ items) h zero x e = (let is : y ≡ x = cc in subst FitsIndexItem is h.0)
each_item (y ∷ items) h (suc i) x e = each_item items h.1 i x e

item_passes : (items : List IndexItem) → list_all is_item_place items ≡ true → (i : ℕ) (x : IndexItem) → slice_get items i ≡ Some x → is_item_place x ≡ true
item_passes [] h i x e = absurd (cc)
item_passes (y ∷ items) h zero x e = (let is : y ≡ x = cc in ap is_item_place (sym is) ∙ left_of (is_item_place y) (list_all is_item_place items) h)
item_passes (y ∷ items) h (suc i) x e = item_passes items (right_of (is_item_place y) (list_all is_item_place items) h) i x e

pub each_of : {X : Type 0} (P : X → Type 0) (xs : List X) → AllByRecursion P xs → Each P xs
each_of P [] h = tt
each_of P (x ∷ xs) h = (h.0, each_of P xs h.1)

pub neither : (a b : Bool) → a ≡ false → b ≡ false → (a || b) ≡ false
neither true b e f = absurd (cc)
neither false b e f = f

module _ (items : List IndexItem) where
  -- what holds of the place of each item holds of places at numbers
  placed_each : (P : Place → Type 0) → ((i : ℕ) (x : IndexItem) → slice_get items i ≡ Some x → P (place_of x)) → (ns : List ℕ) → AllByRecursion P (places_at items ns)
  placed_each P h [] = tt
  placed_each P h (n ∷ ns) = by (slice_get items n) refl (placed_each P h ns)
    where
      by : (o : Option IndexItem) → slice_get items n ≡ o → AllByRecursion P (places_at items ns) → AllByRecursion P (option_to_list (option_map place_of o) ++ places_at items ns)
      by None e more = more
      by (Some x) e more = (h n x e, more)

  placed_few : (ns : List ℕ) → length (places_at items ns) ≤ length ns
  placed_few [] = omega arith
  placed_few (n ∷ ns) = by (slice_get items n) (placed_few ns)
    where
      by : (o : Option IndexItem) → length (places_at items ns) ≤ length ns → length (option_to_list (option_map place_of o) ++ places_at items ns) ≤ length (n ∷ ns)
      by None l = omega (arith, l)
      by (Some x) l = omega (arith, l)

  -- the places of items with these numbers aren't among those seen
  abbrev Unseen : List Place → List ℕ → Type 0
  Unseen seen ns = AllByRecursion (λ n. (x : IndexItem) → slice_get items n ≡ Some x → is_among seen (place_of x) ≡ false) ns

  module _ (once : Once (map item_name items)) where
    unseen_more : (seen : List Place) (n : ℕ) (x : IndexItem) → slice_get items n ≡ Some x → (ns : List ℕ) → AllByRecursion (λ m. nat_eq n m ≡ false) ns → Unseen seen ns → Unseen (place_of x ∷ seen) ns
    unseen_more seen n x e [] apart h = tt
    unseen_more seen n x e (m ∷ ns) apart h = (λ y is. neither (same (item_name y) (item_name x)) (is_among seen (place_of y)) (other y is) (h.0 y is), unseen_more seen n x e ns apart.1 h.1)
      where
        other : (y : IndexItem) → slice_get items m ≡ Some y → same (item_name y) (item_name x) ≡ false
        other y is = false_from_ne_true (same (item_name y) (item_name x)) (λ t.
            (let named = ap Some (same_is (item_name y) (item_name x) t) in
            let one : n ≡ m = once n m (item_name x) (got_map item_name items n x e) (got_map item_name items m y is ∙ named) in
            let alike : nat_eq n m ≡ true = ap (nat_eq n) (sym one) ∙ self n in
            let bad : true ≡ false = sym alike ∙ apart.0 in
            cc))
          where
            self : (k : ℕ) → nat_eq k k ≡ true
            self k = eq-eqb k k refl

    placed_new : (seen : List Place) (ns : List ℕ) → IsDistinct nat_eq ns → Unseen seen ns → are_new seen (places_at items ns) ≡ true
    placed_new seen [] d h = refl
    placed_new seen (n ∷ ns) d h = by (slice_get items n) refl (λ others u. placed_new others ns (IsDistinct-tail nat_eq n ns d) u)
      where
        by : (o : Option IndexItem) → slice_get items n ≡ o → ((others : List Place) → Unseen others ns → are_new others (places_at items ns) ≡ true) → are_new seen (option_to_list (option_map place_of o) ++ places_at items ns) ≡ true
        by None e rest = rest seen h.1
        by (Some x) e rest = both (not (is_among seen (place_of x))) (are_new (place_of x ∷ seen) (places_at items ns)) (ap not (h.0 x e)) (rest (place_of x ∷ seen) (unseen_more seen n x e ns (IsDistinct-head nat_eq n ns d) h.1))

none_seen : (items : List IndexItem) (ns : List ℕ) → Unseen items [] ns
none_seen items [] = tt
none_seen items (n ∷ ns) = (λ x e. refl, none_seen items ns)

module _ (index : Index) (fits : FitsIndex index) (is : is_index index ≡ true) (once : Once (map item_name index.items)) (ns : List ℕ) (are : AreNumbers index.items ns) where
  few : length ns ≤ length index.items
  few = length-le_from_distinct_below ns (length index.items) are.once (λ q h. All-contains (λ i. i < length index.items) ns q are.below (Contains-from_any {eq = nat_eq} exact_unsigned_eq q ns h))

  abbrev places : List Place
  places = places_at index.items ns

  places_fit : FitsPlaces places
  places_fit = record {
    few = omega (arith, fits.items.few, few, placed_few index.items ns);
    each = each_of FitsPlace places (placed_each index.items FitsPlace (λ i x e. (let x_fits = each_item index.items fits.items.each i x e in record { «module» = x_fits.«module»; name = x_fits.name })) ns);
  }

  places_pass : are_places places ≡ true
  places_pass =
      both (list_all is_place places) (are_new [] places)
      (all_pass is_place places (placed_each index.items (λ p. is_place p ≡ true) (item_passes index.items (right_of (list_all is_module index.modules) (list_all is_item_place index.items) is)) ns))
      (placed_new index.items once [] ns are.once (none_seen index.items ns))

  pub places_read : places_in (places_form places) ≡ Some places
  unfolding places_in
  places_read = passes are_places (answers_are_answered.places (places_form places)).0 places (read_back FitsPlaces places_form places (answers_are_answered.places (places_form places)).0 places_fit (answers_are_answered.places (places_form places)).1) places_pass
