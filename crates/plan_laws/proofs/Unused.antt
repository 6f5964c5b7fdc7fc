-- The functions that are never used are read back from their form.
use Rattle.std.proofs.Common.{◌≡◌, ℕ, ◌+◌, ◌≤◌, ◌&&◌, nat_eq, Bool, true, false, not, List, [], ◌∷◌, length, map, refl, sym, ap, subst, arith, if◌then◌else◌}
use Rattle.std.specs.Prelude.{Some}
use Rattle.std.specs.List.{AllByRecursion, list_all, list_any}
use Rattle.std.proofs.lemmas.Bool.{false_from_ne_true}
use Rattle.inc_wire.specs.Fits.{Each}
use Rattle.inc_wire.specs.Narrow.{read_back}
use Rattle.rs_tree.specs.declared.index.IndexItem.{IndexItem}
use Rattle.rs_tree.specs.declared.place.Place.{Place}
use Rattle.rs_tree.specs.declared.tree.Crate.{Crate}
use Rattle.rs_tree.proofs.Both.{left_of, right_of}
use Rattle.rs_grammar.specs.Tidy.{Distinct, IsTidyCrate, NamesArePlain}
use Rattle.rs_forms.specs.Fits.{FitsIndex, FitsIndexItem, FitsPlace}
use Rattle.rs_answers.specs.Fits.{FitsPlaces}
use Rattle.rs_answers.specs.Forms.{places_form}
use Rattle.rs_answers.proofs.Seeks.{answers_are_answered}
use Rattle.rs_lookup.specs.Places.{item_name, same}
use Rattle.rs_reach.specs.Dead.{dead_of, is_function, is_main, is_silent, place_of, places_where, search}
use Rattle.rs_queries.specs.Built.{tree_index}
use Rattle.rs_queries.specs.Known.{items_of}
use Rattle.rs_plans.specs.Names.{are_new, are_places, is_among, is_item_place, is_module, is_place}
use Rattle.rs_plans.specs.Readings.{places_in}
use Rattle.rs_plans.proofs.Fresh.{same_is}
use Rattle.link_laws.proofs.Lists.{contains_map, each_from, head_apart, rest_distinct}
use Rattle.link_laws.proofs.Places.{placed_names}
use Rattle.plan_laws.proofs.Index.{index_passes, passes}
use Rattle.plan_laws.proofs.Places.{each_of, neither}
use Rattle.plan_laws.proofs.Tests.{all_pass, both}

-- no two items have one name
abbrev Apart : List IndexItem → Type 0
Apart [] = Unit {0}
Apart (x ∷ xs) = AllByRecursion (λ y. same (item_name y) (item_name x) ≡ false) xs × Apart xs

apart : (xs : List IndexItem) → Distinct (map item_name xs) → Apart xs
apart [] d = tt
apart (x ∷ xs) d = (
  each_from (λ y. same (item_name y) (item_name x) ≡ false) xs (λ y has. false_from_ne_true (same (item_name y) (item_name x)) (λ e. head_apart (item_name x) (map item_name xs) d (item_name y) (contains_map item_name xs y has) (sym (same_is (item_name y) (item_name x) e)))),
  apart xs (rest_distinct (item_name x) (map item_name xs) d),
)

each_place : (xs : List IndexItem) → Each FitsIndexItem xs → AllByRecursion (λ x. FitsPlace (place_of x)) xs
each_place [] h = tt
each_place (x ∷ xs) h = (record { «module» = h.0.«module»; name = h.0.name }, each_place xs h.1)

each_passes : (xs : List IndexItem) → list_all is_item_place xs ≡ true → AllByRecursion (λ x. is_place (place_of x) ≡ true) xs
each_passes [] h = tt
each_passes (x ∷ xs) h = (left_of (is_item_place x) (list_all is_item_place xs) h, each_passes xs (right_of (is_item_place x) (list_all is_item_place xs) h))

none_among : (xs : List IndexItem) → AllByRecursion (λ y. is_among [] (place_of y) ≡ false) xs
none_among [] = tt
none_among (x ∷ xs) = (refl, none_among xs)

module _ (p : ℕ → IndexItem → Bool) where
  chosen_few : (i : ℕ) (xs : List IndexItem) → length (places_where p i xs) ≤ length xs
  chosen_few i [] = omega arith
  chosen_few i (x ∷ xs) = by (p i x) (chosen_few (i + 1) xs)
    where
      by : (b : Bool) → length (places_where p (i + 1) xs) ≤ length xs → length (if b then place_of x ∷ places_where p (i + 1) xs else places_where p (i + 1) xs) ≤ length (x ∷ xs)
      by true l = omega (arith, l)
      by false l = omega (arith, l)

  chosen_each : (P : Place → Type 0) (i : ℕ) (xs : List IndexItem) → AllByRecursion (λ x. P (place_of x)) xs → AllByRecursion P (places_where p i xs)
  chosen_each P i [] h = tt
  chosen_each P i (x ∷ xs) h = by (p i x) (chosen_each P (i + 1) xs h.1)
    where
      by : (b : Bool) → AllByRecursion P (places_where p (i + 1) xs) → AllByRecursion P (if b then place_of x ∷ places_where p (i + 1) xs else places_where p (i + 1) xs)
      by true more = (h.0, more)
      by false more = more

  chosen_new : (seen : List Place) (i : ℕ) (xs : List IndexItem) → Apart xs → AllByRecursion (λ y. is_among seen (place_of y) ≡ false) xs → are_new seen (places_where p i xs) ≡ true
  chosen_new seen i [] d h = refl
  chosen_new seen i (x ∷ xs) d h = by (p i x) (chosen_new seen (i + 1) xs d.1 h.1) (chosen_new (place_of x ∷ seen) (i + 1) xs d.1 (more xs d.0 h.1))
    where
      more : (ys : List IndexItem) → AllByRecursion (λ y. same (item_name y) (item_name x) ≡ false) ys → AllByRecursion (λ y. is_among seen (place_of y) ≡ false) ys → AllByRecursion (λ y. is_among (place_of x ∷ seen) (place_of y) ≡ false) ys
      more [] a b = tt
      more (y ∷ ys) a b = (neither (same (item_name y) (item_name x)) (is_among seen (place_of y)) a.0 b.0, more ys a.1 b.1)

      by : (b : Bool) → are_new seen (places_where p (i + 1) xs) ≡ true → are_new (place_of x ∷ seen) (places_where p (i + 1) xs) ≡ true → are_new seen (if b then place_of x ∷ places_where p (i + 1) xs else places_where p (i + 1) xs) ≡ true
      by true old new = both (not (is_among seen (place_of x))) (are_new (place_of x ∷ seen) (places_where p (i + 1) xs)) (ap not h.0) new
      by false old new = old

module _ (plain : NamesArePlain) (krate : Crate) (tidy : IsTidyCrate krate) (fits : FitsIndex (tree_index krate)) (calls : List (Place × List Place)) where
  abbrev items : List IndexItem
  items = items_of krate

  abbrev unused : ℕ → IndexItem → Bool
  unused i x = is_function x && not (list_any (nat_eq i) (search is_main is_function items calls).found) && not (is_silent x)

  dead_fit : FitsPlaces (dead_of items calls)
  dead_fit = record { few = omega (arith, fits.items.few, chosen_few unused 0 items); each = each_of FitsPlace (dead_of items calls) (chosen_each unused FitsPlace 0 items (each_place items fits.items.each)) }

  dead_pass : are_places (dead_of items calls) ≡ true
  dead_pass =
      both (list_all is_place (dead_of items calls)) (are_new [] (dead_of items calls))
      (all_pass is_place (dead_of items calls) (chosen_each unused (λ q. is_place q ≡ true) 0 items (each_passes items (right_of (list_all is_module krate.modules) (list_all is_item_place items) (index_passes plain krate tidy)))))
      (chosen_new unused [] 0 items (apart items (subst Distinct (sym (placed_names krate.items)) tidy.items)) (none_among items))

  pub dead_read : places_in (places_form (dead_of items calls)) ≡ Some (dead_of items calls)
  unfolding places_in
  dead_read = passes are_places (answers_are_answered.places (places_form (dead_of items calls))).0 (dead_of items calls)
      (read_back FitsPlaces places_form (dead_of items calls) (answers_are_answered.places (places_form (dead_of items calls))).0 dead_fit (answers_are_answered.places (places_form (dead_of items calls))).1)
      dead_pass
