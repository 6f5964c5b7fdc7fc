-- Which numbers pass, and the places that they have.
use Rattle.std.proofs.Common.{◌≡◌, ℕ, ◌+◌, inl, inr, zero, suc, Bool, true, false, not, cond, ◌&&◌, nat_eq, List, [], ◌∷◌, map, Option, Some, None, refl, sym, ap, ◌∙◌, subst, arith, ◌↔◌}
use Rattle.std.specs.Prelude.{filter, slice_get, slice_index_or}
use Rattle.std.specs.Option.{option_map, option_to_list}
use Rattle.std.specs.List.{Contains}
use Rattle.std.proofs.lemmas.Cmp.{nat_eq_equiv}
use Rattle.std.proofs.lemmas.List.Elements.{All-contains, All-contains_itself, All-filter, filter_passes, Contains-append_left, Contains-append_right, Contains-append_cases}
use Rattle.std.proofs.lemmas.Map.Views.{Contains-from_any, exact_unsigned_eq, list_any-from_Contains}
use Rattle.std.proofs.lemmas.Option.{slice_get-map, get_or_from_slice_get}
use Rattle.rs_tree.specs.declared.place.Place.{Place}
use Rattle.rs_tree.specs.declared.index.IndexItem.{IndexItem}
use Rattle.rs_reach.specs.Calls.{places_at}
use Rattle.rs_reach.specs.Dead.{numbers_where}
use Rattle.rs_reach.specs.Places.{IsLeft}
use Rattle.rs_reach.specs.Search.{is_new}
use Rattle.rs_units.specs.Members.{is_among, is_inline, place_numbered}

later : {X : Type 0} (y : X) (xs : List X) (x : X) → Contains xs x → Contains (y ∷ xs) x
later y xs x h = (suc h.0, omega (arith, h.1), h.2)

-- an item that passes, with its number counted from j
record Passes (p : IndexItem → Bool) (j : ℕ) (items : List IndexItem) (i : ℕ) : Type 0 where
  at : ℕ
  counted : i ≡ j + at
  item : IndexItem
  numbered : slice_get items at ≡ Some item
  passes : p item ≡ true

passing : (p : IndexItem → Bool) (j : ℕ) (items : List IndexItem) (i : ℕ) → Contains (numbers_where p j items) i → Passes p j items i
passing p j [] i h = absurd (omega (arith, h.1))
passing p j (x ∷ items) i h = by (p x) refl h (λ more. passing p (j + 1) items i more)
  where
    on : Passes p (j + 1) items i → Passes p j (x ∷ items) i
    on more = record { at = suc more.at; counted = omega (arith, more.counted); item = more.item; numbered = more.numbered; passes = more.passes }

    first : p x ≡ true → Contains (j ∷ numbers_where p (j + 1) items) i → (Contains (numbers_where p (j + 1) items) i → Passes p (j + 1) items i) → Passes p j (x ∷ items) i
    first is (zero, l, e) rest = record { at = 0; counted = omega (arith, e); item = x; numbered = refl; passes = is }
    first is (suc k, l, e) rest = on (rest (k, omega (arith, l), e))

    by : (b : Bool) → p x ≡ b → Contains (cond b (j ∷ numbers_where p (j + 1) items) (numbers_where p (j + 1) items)) i → (Contains (numbers_where p (j + 1) items) i → Passes p (j + 1) items i) → Passes p j (x ∷ items) i
    by true is h rest = first is h rest
    by false is h rest = on (rest h)

numbering : (p : IndexItem → Bool) (j : ℕ) (items : List IndexItem) (at i : ℕ) (x : IndexItem) → slice_get items at ≡ Some x → p x ≡ true → i ≡ j + at → Contains (numbers_where p j items) i
numbering p j [] at i x is pass e = absurd cc
numbering p j (y ∷ items) zero i x is pass e = by (p y) (ap p same ∙ pass)
  where
    same : y ≡ x
    same = cc

    by : (b : Bool) → b ≡ true → Contains (cond b (j ∷ numbers_where p (j + 1) items) (numbers_where p (j + 1) items)) i
    by true h = (0, omega arith, omega (arith, e))
    by false h = absurd cc
numbering p j (y ∷ items) (suc at) i x is pass e = by (p y) (numbering p (j + 1) items at i x is pass (omega (arith, e)))
  where
    by : (b : Bool) → Contains (numbers_where p (j + 1) items) i → Contains (cond b (j ∷ numbers_where p (j + 1) items) (numbers_where p (j + 1) items)) i
    by true h = later j (numbers_where p (j + 1) items) i h
    by false h = h

-- a number is among those that pass exactly where its item passes
pub passing_numbers : (p : IndexItem → Bool) (items : List IndexItem) (i : ℕ) → Contains (numbers_where p 0 items) i ↔ ((x : IndexItem) × (slice_get items i ≡ Some x) × (p x ≡ true))
passing_numbers p items i = (
  λ h. (let its = passing p 0 items i h in let same : its.at ≡ i = omega (arith, its.counted) in (its.item, ap (slice_get items) (sym same) ∙ its.numbered, its.passes)),
  λ h. numbering p 0 items i i h.0 h.1 h.2 (omega arith),
)

-- what a filter keeps
kept_contains : (g : ℕ → Bool) (ns : List ℕ) (i : ℕ) → Contains ns i → g i ≡ true → Contains (filter g ns) i
kept_contains g [] i h pass = absurd (omega (arith, h.1))
kept_contains g (n ∷ ns) i (zero, l, e) pass = by (g n) (ap g e ∙ pass)
  where
    by : (b : Bool) → b ≡ true → Contains (cond b (n ∷ filter g ns) (filter g ns)) i
    by true h = (0, omega arith, e)
    by false h = absurd cc
kept_contains g (n ∷ ns) i (suc k, l, e) pass = by (g n) (kept_contains g ns i (k, omega (arith, l), e) pass)
  where
    by : (b : Bool) → Contains (filter g ns) i → Contains (cond b (n ∷ filter g ns) (filter g ns)) i
    by true h = later n (filter g ns) i h
    by false h = h

pub filter_contains : (g : ℕ → Bool) (ns : List ℕ) (i : ℕ) → Contains (filter g ns) i ↔ (Contains ns i × (g i ≡ true))
filter_contains g ns i = (
  λ h. (All-contains (Contains ns) (filter g ns) i (All-filter g (Contains ns) ns (All-contains_itself ns)) h, All-contains (λ n. g n ≡ true) (filter g ns) i (filter_passes g ns) h),
  λ h. kept_contains g ns i h.0 h.1,
)

pub among_contains : (found : List ℕ) (i : ℕ) → (is_among found i ≡ true) ↔ Contains found i
among_contains found i = (λ h. Contains-from_any {eq = nat_eq} exact_unsigned_eq i found h, λ h. list_any-from_Contains nat_eq_equiv i found h)

-- tests that agree on the numbers of a list keep the same ones
same_filter : (g h : ℕ → Bool) (ns : List ℕ) → ((i : ℕ) → Contains ns i → g i ≡ h i) → filter g ns ≡ filter h ns
same_filter g h [] agree = refl
same_filter g h (n ∷ ns) agree =
    (λ j. cond (agree n (0, omega arith, refl) j) (n ∷ filter g ns) (filter g ns))
    ∙ ap (λ rest. cond (h n) (n ∷ rest) rest) (same_filter g h ns (λ i has. agree i (later n ns i has)))

-- of the functions of kind 2 those that aren't left are those found
pub not_left : (items : List IndexItem) (left : List Bool) (found : List ℕ) → IsLeft (map is_inline items) left found
    → filter (λ i. not (slice_index_or left i false)) (numbers_where is_inline 0 items) ≡ filter (is_among found) (numbers_where is_inline 0 items)
not_left items left found is = same_filter _ _ (numbers_where is_inline 0 items) agree
  where
    twice : (b : Bool) → not (not b) ≡ b
    twice true = refl
    twice false = refl

    marked : (i : ℕ) → Contains (numbers_where is_inline 0 items) i → slice_index_or (map is_inline items) i false ≡ true
    marked i has = (let its = (passing_numbers is_inline items i).0 has in
        get_or_from_slice_get (map is_inline items) i true false (slice_get-map is_inline items i ∙ ap (option_map is_inline) its.1 ∙ ap Some its.2))

    agree : (i : ℕ) → Contains (numbers_where is_inline 0 items) i → not (slice_index_or left i false) ≡ is_among found i
    agree i has =
        (let new : is_new (map is_inline items) found i ≡ not (is_among found i) = ap (λ b. b && not (is_among found i)) (marked i has) in
        ap not (is.each i ∙ new) ∙ twice (is_among found i))

-- the places at numbers
its_place : (o : Option Place) (p : Place) → Contains (option_to_list o) p → o ≡ Some p
its_place None p h = absurd (omega (arith, h.1))
its_place (Some q) p (zero, l, e) = ap Some e
its_place (Some q) p (suc k, l, e) = absurd (omega (arith, l))

pub places_contain : (items : List IndexItem) (ns : List ℕ) (p : Place) → Contains (places_at items ns) p ↔ ((i : ℕ) × Contains ns i × (place_numbered items i ≡ Some p))
places_contain items ns p = (number ns, λ h. place ns h.0 h.1 h.2)
  where
    number : (ns : List ℕ) → Contains (places_at items ns) p → (i : ℕ) × Contains ns i × (place_numbered items i ≡ Some p)
    number [] h = absurd (omega (arith, h.1))
    number (n ∷ ns) h = elim (Contains-append_cases (option_to_list (place_numbered items n)) (places_at items ns) p h) [
      | inl here ↦ (n, (0, omega arith, refl), its_place (place_numbered items n) p here)
      | inr there ↦ (let more = number ns there in (more.0, later n ns more.0 more.1, more.2))
    ]

    place : (ns : List ℕ) (i : ℕ) → Contains ns i → place_numbered items i ≡ Some p → Contains (places_at items ns) p
    place [] i h e = absurd (omega (arith, h.1))
    place (n ∷ ns) i (zero, l, same) e =
        (let is : place_numbered items n ≡ Some p = ap (place_numbered items) same ∙ e in
        Contains-append_left (option_to_list (place_numbered items n)) (places_at items ns) p (subst (λ (o : Option Place). Contains (option_to_list o) p) (sym is) (0, omega arith, refl)))
    place (n ∷ ns) i (suc k, l, same) e = Contains-append_right (option_to_list (place_numbered items n)) (places_at items ns) p (place ns i (k, omega (arith, l), same) e)
