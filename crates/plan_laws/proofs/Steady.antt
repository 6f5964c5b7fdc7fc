-- As many steps as there are constants are enough for a value: more give the same.
use Rattle.std.proofs.Common.{◌≡◌, ◌⊎◌, inl, inr, ℕ, ℤ, zero, suc, ◌+◌, ◌<◌, ◌≤◌, ◌-◌, ◌||◌, Bool, true, false, List, [], ◌∷◌, length, refl, sym, ap, subst, ◌∙◌, arith, if◌then◌else◌}
use Rattle.std.specs.Prelude.{Option, Some, None, is_none, slice_get, option_and_then}
use Rattle.std.specs.List.{list_any}
use Rattle.std.specs.Option.{option_map_or}
use Rattle.std.proofs.lemmas.Bool.{cases_lt}
use Rattle.std.proofs.lemmas.Option.{slice_get_past}
use Rattle.rs_tree.specs.declared.answers.Const.TheVariants as k
use Rattle.rs_tree.specs.declared.answers.Found.{Found}
use Rattle.rs_tree.specs.declared.index.Sig.{Sig}
use Rattle.rs_tree.specs.declared.place.Place.{Place}
use Rattle.rs_tree.specs.declared.tree.Path as path
use Rattle.rs_tree.specs.Plain.{Definition, Const, Func, definition}
use Rattle.rs_tree.specs.Leaves.{filled}
use Rattle.rs_lookup.specs.Places.{Name}
use Rattle.rs_value.specs.Value.{value}
use Rattle.rs_const.specs.Constants.{Entry, const_of, const_wrongs, given_by, is_some_wrong, named, names, number, sigs_of, value_at, worth, worth_by}

-- ---- Where the values that are given stay.

-- what has a value by the one has it by the other
abbrev IsMore : (ℕ → Option ℤ) → (ℕ → Option ℤ) → Type 0
IsMore v w = (j : ℕ) (x : ℤ) → v j ≡ Some x → w j ≡ Some x

given_more : (v w : ℕ → Option ℤ) → IsMore v w → (ns : List Name) (fs : List Found) → list_any is_none (given_by v ns fs) ≡ false → given_by v ns fs ≡ given_by w ns fs
given_more v w more ns [] h = refl
given_more v w more ns (b ∷ fs) h = by (named ns b) h (given_more v w more ns fs)
  where
    at : (j : ℕ) (o : Option ℤ) → v j ≡ o → (is_none o || list_any is_none (given_by v ns fs)) ≡ false → (list_any is_none (given_by v ns fs) ≡ false → given_by v ns fs ≡ given_by w ns fs) → o ∷ given_by v ns fs ≡ w j ∷ given_by w ns fs
    at j None is h rest = absurd (cc)
    at j (Some x) is h rest = ap (λ o. o ∷ given_by v ns fs) (sym (more j x is)) ∙ ap (λ l. w j ∷ l) (rest h)

    by : (o : Option ℕ) → (is_none (option_and_then v o) || list_any is_none (given_by v ns fs)) ≡ false → (list_any is_none (given_by v ns fs) ≡ false → given_by v ns fs ≡ given_by w ns fs)
        → option_and_then v o ∷ given_by v ns fs ≡ option_and_then w o ∷ given_by w ns fs
    by None h rest = absurd (cc)
    by (Some j) h rest = at j (v j) refl h rest

-- a number comes of values that are all given
worth_more : (sigs : List (Place × Sig)) (d : Definition path.Path) (fs : List Found) (g h : List (Option ℤ)) (x : ℤ) → (list_any is_none g ≡ false → g ≡ h) → number (worth sigs d fs g) ≡ Some x → worth sigs d fs g ≡ worth sigs d fs h
worth_more sigs (Func inlined params gives stmts tail) fs g h x same e = refl
worth_more sigs (Const typ ex) fs g h x same e = by (is_some_wrong (const_wrongs sigs typ ex fs)) (list_any is_none g) refl e
  where
    by : (a b : Bool) → list_any is_none g ≡ b → number (if a || b then k.Bad else const_of typ (value (filled None g ex))) ≡ Some x
        → (if a || b then k.Bad else const_of typ (value (filled None g ex))) ≡ (if a || list_any is_none h then k.Bad else const_of typ (value (filled None h ex)))
    by true b is e = refl
    by false true is e = absurd (cc)
    by false false is e =
        let to : g ≡ h = same is in
        ap (λ c. if c then k.Bad else const_of typ (value (filled None g ex))) (sym is) ∙ ap (λ l. if list_any is_none l then k.Bad else const_of typ (value (filled None l ex))) to

module _ (known : List Entry) where
  abbrev numbers : ℕ → ℕ → Option ℤ
  numbers n j = number (value_at known n j)

  entry_more : (v w : ℕ → Option ℤ) → IsMore v w → (o : Option Entry) (x : ℤ) → number (option_map_or (worth_by v known) o k.Bad) ≡ Some x → option_map_or (worth_by v known) o k.Bad ≡ option_map_or (worth_by w known) o k.Bad
  entry_more v w more None x e = refl
  entry_more v w more (Some e) x h = worth_more (sigs_of known) (definition e.1.body) e.2 (given_by v (names known) e.2) (given_by w (names known) e.2) x (given_more v w more (names known) e.2) h

  -- a number stays with one step more
  stays : (n j : ℕ) (x : ℤ) → numbers n j ≡ Some x → value_at known n j ≡ value_at known (suc n) j
  stays zero j x e = absurd (cc)
  stays (suc n) j x e = entry_more (numbers n) (numbers (suc n)) (λ j x e. sym (ap number (stays n j x e)) ∙ e) (slice_get known j) x e

  more_numbers : (n : ℕ) → IsMore (numbers n) (numbers (suc n))
  more_numbers n j x e = sym (ap number (stays n j x e)) ∙ e

  -- nothing changes with one step more
  abbrev IsSteady : ℕ → Type 0
  IsSteady n = (j : ℕ) → value_at known n j ≡ value_at known (suc n) j

  -- where no number changes, no value does after one step more
  steady_next : (n : ℕ) → ((j : ℕ) → numbers n j ≡ numbers (suc n) j) → IsSteady (suc n)
  steady_next n same j = (let all : numbers n ≡ numbers (suc n) = λ i j. same j i in ap (λ v. option_map_or (worth_by v known) (slice_get known j) k.Bad) all)

  steady_more : (n : ℕ) → IsSteady n → IsSteady (suc n)
  steady_more n h = steady_next n (λ j. ap number (h j))

  abbrev after : ℕ → ℕ → ℕ
  after zero n = n
  after (suc d) n = suc (after d n)

  after_is : (d n : ℕ) → after d n ≡ d + n
  after_is zero n = omega arith
  after_is (suc d) n = omega (arith, after_is d n)

  steady_after : (d n : ℕ) → IsSteady n → IsSteady (after d n) × ((j : ℕ) → value_at known (after d n) j ≡ value_at known n j)
  steady_after zero n h = (h, λ j. refl)
  steady_after (suc d) n h = (let before = steady_after d n h in (steady_more (after d n) before.0, λ j. sym (before.0 j) ∙ before.1 j))

  steady_from : (n m : ℕ) → IsSteady n → n ≤ m → (j : ℕ) → value_at known m j ≡ value_at known n j
  steady_from n m h le j = (let at : after (m - n) n ≡ m = omega (arith, le, after_is (m - n) n) in ap (λ s. value_at known s j) (sym at) ∙ (steady_after (m - n) n h).1 j)

  -- ---- How many numbers there are.

  bit : Option ℤ → ℕ
  bit None = 0
  bit (Some x) = 1

  counted : (ℕ → Option ℤ) → ℕ → List Entry → ℕ
  counted v i [] = 0
  counted v i (e ∷ es) = bit (v i) + counted v (suc i) es

  bit_more : (a b : Option ℤ) → ((x : ℤ) → a ≡ Some x → b ≡ Some x) → bit a ≤ bit b
  unfolding bit
  bit_more None b h = omega arith
  bit_more (Some x) b h = (let is : b ≡ Some x = h x refl in let one : bit b ≡ 1 = ap bit is in omega (arith, one))

  bit_same : (a b : Option ℤ) → ((x : ℤ) → a ≡ Some x → b ≡ Some x) → bit b ≤ bit a → a ≡ b
  unfolding bit
  bit_same None None h le = refl
  bit_same None (Some x) h le = absurd (omega (arith, le))
  bit_same (Some x) b h le = sym (h x refl)

  bit_some : (a : Option ℤ) → 1 ≤ bit a → (x : ℤ) × (a ≡ Some x)
  unfolding bit
  bit_some None le = absurd (omega (arith, le))
  bit_some (Some x) le = (x, refl)

  bit_small : (a : Option ℤ) → bit a ≤ 1
  unfolding bit
  bit_small None = omega arith
  bit_small (Some x) = omega arith

  counted_more : (v w : ℕ → Option ℤ) → IsMore v w → (i : ℕ) (es : List Entry) → counted v i es ≤ counted w i es
  unfolding counted
  counted_more v w more i [] = omega arith
  counted_more v w more i (e ∷ es) = omega (arith, bit_more (v i) (w i) (more i), counted_more v w more (suc i) es)

  counted_few : (v : ℕ → Option ℤ) (i : ℕ) (es : List Entry) → counted v i es ≤ length es
  unfolding counted
  counted_few v i [] = omega arith
  counted_few v i (e ∷ es) = omega (arith, bit_small (v i), counted_few v (suc i) es)

  -- where there aren't more, they are the same
  counted_same : (v w : ℕ → Option ℤ) → IsMore v w → (i : ℕ) (es : List Entry) → counted w i es ≤ counted v i es → (j : ℕ) → i ≤ j → j < i + length es → v j ≡ w j
  unfolding counted
  counted_same v w more i [] le j l m = absurd (omega (arith, l, m))
  counted_same v w more i (e ∷ es) le j l m = by (cases_lt i j) (counted_same v w more (suc i) es)
    where
      rest : counted w (suc i) es ≤ counted v (suc i) es
      rest = omega (arith, le, bit_more (v i) (w i) (more i))

      here : bit (w i) ≤ bit (v i)
      here = omega (arith, le, counted_more v w more (suc i) es)

      by : (i < j) ⊎ (j ≤ i) → (counted w (suc i) es ≤ counted v (suc i) es → (j : ℕ) → suc i ≤ j → j < suc i + length es → v j ≡ w j) → v j ≡ w j
      by (inl past) next = next rest j (omega (arith, past)) (omega (arith, m))
      by (inr at) next = (let is : i ≡ j = omega (arith, at, l) in subst (λ j. v j ≡ w j) is (bit_same (v i) (w i) (more i) here))

  -- where all count, each is a number
  counted_all : (v : ℕ → Option ℤ) (i : ℕ) (es : List Entry) → length es ≤ counted v i es → (j : ℕ) → i ≤ j → j < i + length es → (x : ℤ) × (v j ≡ Some x)
  unfolding counted
  counted_all v i [] le j l m = absurd (omega (arith, l, m))
  counted_all v i (e ∷ es) le j l m = by (cases_lt i j) (counted_all v (suc i) es)
    where
      rest : length es ≤ counted v (suc i) es
      rest = omega (arith, le, bit_small (v i))

      here : 1 ≤ bit (v i)
      here = omega (arith, le, counted_few v (suc i) es)

      by : (i < j) ⊎ (j ≤ i) → (length es ≤ counted v (suc i) es → (j : ℕ) → suc i ≤ j → j < suc i + length es → (x : ℤ) × (v j ≡ Some x)) → (x : ℤ) × (v j ≡ Some x)
      by (inl past) next = next rest j (omega (arith, past)) (omega (arith, m))
      by (inr at) next = (let is : i ≡ j = omega (arith, at, l) in subst (λ j. (x : ℤ) × (v j ≡ Some x)) is (bit_some (v i) here))

  -- past the constants there is no value
  none_past : (n j : ℕ) → length known ≤ j → value_at known n j ≡ k.Bad
  none_past zero j l = refl
  none_past (suc n) j l = ap (λ o. option_map_or (worth_by (numbers n) known) o k.Bad) (slice_get_past known j l)

  same_all : (n : ℕ) → counted (numbers (suc n)) 0 known ≤ counted (numbers n) 0 known → (j : ℕ) → numbers n j ≡ numbers (suc n) j
  same_all n le j = elim (cases_lt j (length known)) [
    | inl inside ↦ counted_same (numbers n) (numbers (suc n)) (more_numbers n) 0 known le j (omega arith) (omega (arith, inside))
    | inr past ↦ ap number (none_past n j past ∙ sym (none_past (suc n) j past))
  ]

  -- in n steps some step changes no number, or there are n numbers
  grown : (n : ℕ) → ((m : ℕ) × (m < n) × ((j : ℕ) → numbers m j ≡ numbers (suc m) j)) ⊎ (n ≤ counted (numbers n) 0 known)
  grown zero = inr (omega arith)
  grown (suc n) = elim (grown n) [
    | inl found ↦ inl (found.0, omega (arith, found.1), found.2)
    | inr many ↦ elim (cases_lt (counted (numbers n) 0 known) (counted (numbers (suc n)) 0 known)) [
      | inl more ↦ inr (omega (arith, many, more))
      | inr same ↦ inl (n, omega arith, same_all n same)
    ]
  ]

  all_steady : length known ≤ counted (numbers (length known)) 0 known → IsSteady (length known)
  all_steady full j = elim (cases_lt j (length known)) [
    | inl inside ↦ (let x = counted_all (numbers (length known)) 0 known full j (omega arith) (omega (arith, inside)) in stays (length known) j x.0 x.1)
    | inr past ↦ none_past (length known) j past ∙ sym (none_past (suc (length known)) j past)
  ]

  steady : (n : ℕ) × (n ≤ length known) × IsSteady n
  steady = elim (grown (length known)) [
    | inl found ↦ (suc found.0, omega (arith, found.1), steady_next found.0 found.2)
    | inr full ↦ (length known, omega arith, all_steady full)
  ]

  pub settled : (m : ℕ) → length known ≤ m → (j : ℕ) → value_at known m j ≡ value_at known (length known) j
  settled m le j = (let s = steady in steady_from s.0 m s.2 (omega (arith, le, s.1)) j ∙ sym (steady_from s.0 (length known) s.2 s.1 j))
