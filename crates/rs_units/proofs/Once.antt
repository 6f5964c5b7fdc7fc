-- No member has two numbers in the list, and each number is that of an item.
use Rattle.std.proofs.Common.{◌≡◌, ℕ, ◌<◌, inl, inr, suc, refl, Bool, true, false, cond, ◌==◌, nat_eq, List, [], ◌∷◌, ◌++◌, length, get_or, Some, sym, ap, ◌∙◌, arith}
use Rattle.std.specs.Prelude.{filter, slice_get}
use Rattle.std.specs.List.{All, Contains, IsDistinct}
use Rattle.std.proofs.lemmas.Bool.{and_parts, eqb-true, false_from_ne_true}
use Rattle.std.proofs.lemmas.List.Elements.{All-append, All-filter, All-from_recursion, recursion_from_All, Contains-get_or, Contains-append_cases}
use Rattle.std.proofs.lemmas.Map.Keys.{IsDistinct-cons, IsDistinct-head, IsDistinct-tail}
use Rattle.std.proofs.lemmas.Option.{slice_get_within}
use Rattle.rs_tree.specs.declared.place.Place.{Place}
use Rattle.rs_tree.specs.declared.index.IndexItem.{IndexItem}
use Rattle.rs_reach.specs.Dead.{numbers_where}
use Rattle.rs_reach.proofs.Numbered.{roots_differ}
use Rattle.rs_units.specs.Units.{is_own}
use Rattle.rs_units.specs.Members.{is_among, is_inline, member_numbers, search_of}
use Rattle.rs_units.specs.Laws.{AreNumbers}
use Rattle.rs_units.proofs.Numbers.{passing_numbers, filter_contains}

All-from_contains : (P : ℕ → Type 0) (xs : List ℕ) → ((x : ℕ) → Contains xs x → P x) → All P xs
All-from_contains P xs f k d l = f (get_or xs k d) (Contains-get_or xs k d l)

distinct_filter : (g : ℕ → Bool) (ns : List ℕ) → IsDistinct nat_eq ns → IsDistinct nat_eq (filter g ns)
distinct_filter g [] d = d
distinct_filter g (n ∷ ns) d = by (g n) (distinct_filter g ns (IsDistinct-tail nat_eq n ns d))
  where
    by : (b : Bool) → IsDistinct nat_eq (filter g ns) → IsDistinct nat_eq (cond b (n ∷ filter g ns) (filter g ns))
    by true h = IsDistinct-cons nat_eq n (filter g ns) (recursion_from_All (λ y. nat_eq n y ≡ false) (filter g ns) (All-filter g (λ y. nat_eq n y ≡ false) ns (All-from_recursion (λ y. nat_eq n y ≡ false) ns (IsDistinct-head nat_eq n ns d)))) h
    by false h = h

distinct_append : (xs ys : List ℕ) → IsDistinct nat_eq xs → IsDistinct nat_eq ys → ((x : ℕ) → Contains xs x → All (λ y. nat_eq x y ≡ false) ys) → IsDistinct nat_eq (xs ++ ys)
distinct_append [] ys d e apart = e
distinct_append (x ∷ xs) ys d e apart =
    IsDistinct-cons nat_eq x (xs ++ ys)
    (recursion_from_All (λ y. nat_eq x y ≡ false) (xs ++ ys) (All-append (λ y. nat_eq x y ≡ false) xs ys (All-from_recursion (λ y. nat_eq x y ≡ false) xs (IsDistinct-head nat_eq x xs d)) (apart x (0, omega arith, refl))))
    (distinct_append xs ys (IsDistinct-tail nat_eq x xs d) e (λ y has. apart y (suc has.0, omega (arith, has.1), has.2)))

module _ (unit : List ℕ) (items : List IndexItem) (calls : List (Place × List Place)) where
  abbrev own : List ℕ
  own = numbers_where (is_own unit) 0 items

  abbrev inlines : List ℕ
  inlines = numbers_where is_inline 0 items

  abbrev keep : ℕ → Bool
  keep = is_among (search_of unit items calls).found

  abbrev copies : List ℕ
  copies = filter keep inlines

  below : (i : ℕ) → Contains (own ++ copies) i → i < length items
  below i h = elim (Contains-append_cases own copies i h) [
    | inl a ↦ (let its = (passing_numbers (is_own unit) items i).0 a in slice_get_within items i its.0 its.1)
    | inr b ↦ (let its = (passing_numbers is_inline items i).0 ((filter_contains keep inlines i).0 b).0 in slice_get_within items i its.0 its.1)
  ]

  apart : (x : ℕ) → Contains own x → All (λ y. nat_eq x y ≡ false) copies
  apart x a = All-from_contains (λ y. nat_eq x y ≡ false) copies (λ y b. false_from_ne_true (nat_eq x y) (λ e.
      (let mine = (passing_numbers (is_own unit) items x).0 a in
      let copy = (passing_numbers is_inline items y).0 ((filter_contains keep inlines y).0 b).0 in
      let same : Some mine.0 ≡ Some copy.0 = sym mine.1 ∙ ap (slice_get items) (eqb-true x y e) ∙ copy.1 in
      let item : mine.0 ≡ copy.0 = cc in
      let one : mine.0.kind ≡ 1 = eqb-true mine.0.kind 1 (and_parts (mine.0.kind == 1) _ mine.2).0 in
      let two : copy.0.kind ≡ 2 = eqb-true copy.0.kind 2 copy.2 in
      let kinds : mine.0.kind ≡ copy.0.kind = ap (λ (t : IndexItem). t.kind) item in
      omega (arith, one, two, kinds))))

  pub members_once : AreNumbers items (member_numbers unit items calls)
  members_once = record {
    below = All-from_contains (λ i. i < length items) (own ++ copies) below;
    once = distinct_append own copies (roots_differ (is_own unit) is_inline items).distinct (distinct_filter keep inlines (roots_differ is_inline is_inline items).distinct) apart;
  }
