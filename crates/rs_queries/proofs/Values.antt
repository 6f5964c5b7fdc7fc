-- Constants have their values, and no others.
use Rattle.std.proofs.Common.{◌≡◌, ℕ, ◌+◌, ◌<◌, inl, inr, zero, suc, Bool, true, false, ◌||◌, nat_eq, List, [], ◌∷◌, length, refl, sym, ap, subst, ◌∙◌, arith, if◌then◌else◌}
use Rattle.std.specs.Prelude.{Option, Some, None, map, slice_get, slice_index_or, option_and_then}
use Rattle.std.specs.List.{list_any, Contains, IsDistinct}
use Rattle.std.specs.Option.{option_map, option_map_or}
use Rattle.std.specs.Ordering.{int_eq}
use Rattle.std.proofs.lemmas.Bool.Decides.{Decides-int_eq}
use Rattle.std.proofs.lemmas.Cmp.{nat_eq_equiv}
use Rattle.std.proofs.lemmas.List.{length-map}
use Rattle.std.proofs.lemmas.Map.Views.{Contains-from_any, exact_unsigned_eq, list_any-from_Contains}
use Rattle.std.proofs.lemmas.Option.{slice_get_within, slice_get_cases, get_or_from_slice_get}
use Rattle.rs_tree.specs.declared.answers.Const.{Const}
use Rattle.rs_tree.specs.declared.answers.Const.TheVariants as k
use Rattle.rs_reach.specs.Laws.{AreRoots, Ends, FindsOnce, FindsReached}
use Rattle.rs_reach.specs.Search.{State, next, start, walk}
use Rattle.rs_const.specs.Constants.{Entry, AreValues, IsInCycle, IsValue, named_by, names, names_of, value_at}

-- ---- One value at most.

pub bools : (a b : Bool) → ¬ (¬ (k.Bool a ≡ k.Bool b)) → k.Bool a ≡ k.Bool b
bools true true h = refl
bools true false h = absurd (h (λ e. cc))
bools false true h = absurd (h (λ e. cc))
bools false false h = refl

pub stable : (a b : Const) → ¬ (¬ (a ≡ b)) → a ≡ b
stable (k.Int m) (k.Int n) h = by (int_eq m n) refl
  where
    by : (r : Bool) → int_eq m n ≡ r → k.Int m ≡ k.Int n
    by true e = ap k.Int ((Decides-int_eq m n).0 e)
    by false e = absurd (h (λ q. (let same : m ≡ n = cc in let bad : true ≡ false = sym ((Decides-int_eq m n).1 same) ∙ e in cc)))
stable (k.Bool a) (k.Bool b) h = bools a b h
stable k.Cycle k.Cycle h = refl
stable k.Overflow k.Overflow h = refl
stable k.DivZero k.DivZero h = refl
stable k.Bad k.Bad h = refl
stable a b h = absurd (h (λ e. cc))

same_lists : (xs ys : List Const) → length xs ≡ length ys → ((i : ℕ) (c d : Const) → slice_get xs i ≡ Some c → slice_get ys i ≡ Some d → c ≡ d) → xs ≡ ys
same_lists [] [] l h = refl
same_lists [] (y ∷ ys) l h = absurd (omega (arith, l))
same_lists (x ∷ xs) [] l h = absurd (omega (arith, l))
same_lists (x ∷ xs) (y ∷ ys) l h = (let rest = same_lists xs ys (omega (arith, l)) (λ i c d p q. h (suc i) c d p q) in λ j. h zero x y refl refl j ∷ rest j)

pub one : (known : List Entry) (xs ys : List Const) → AreValues known xs → AreValues known ys → xs ≡ ys
one known xs ys p q = same_lists xs ys (p.all ∙ sym q.all) (λ i c d x y. same i c d (p.each i c x) (q.each i d y))
  where
    same : (i : ℕ) (c d : Const) → IsValue known i c → IsValue known i d → c ≡ d
    same i c d v w = stable c d (λ apart. (let no : ¬ IsInCycle known i = λ h. apart (v.cycle h ∙ sym (w.cycle h)) in apart (v.value no ∙ sym (w.value no))))

-- ---- One value at least.

abbrev all_true : List Entry → List Bool
all_true xs = map (λ x. true) xs

some_in : (p : ℕ → Bool) (xs : List ℕ) → list_any p xs ≡ true → (a : ℕ) × Contains xs a × (p a ≡ true)
some_in p [] e = absurd cc
some_in p (x ∷ xs) e = by (p x) refl e (some_in p xs)
  where
    by : (b : Bool) → p x ≡ b → (b || list_any p xs) ≡ true → (list_any p xs ≡ true → (a : ℕ) × Contains xs a × (p a ≡ true)) → (a : ℕ) × Contains (x ∷ xs) a × (p a ≡ true)
    by true is h rest = (x, (zero, omega arith, refl), is)
    by false is h rest = (let r = rest h in (r.0, (suc r.1.0, omega (arith, r.1.1), r.1.2), r.2))

or_true : (a b : Bool) → b ≡ true → (a || b) ≡ true
or_true true b e = refl
or_true false b e = e

any_in : (p : ℕ → Bool) (xs : List ℕ) (a : ℕ) → Contains xs a → p a ≡ true → list_any p xs ≡ true
any_in p [] a h e = absurd (omega (arith, h.1))
any_in p (x ∷ xs) a (zero, l, is) e = ap (λ b. b || list_any p xs) (ap p is ∙ e)
any_in p (x ∷ xs) a (suc n, l, is) e = or_true (p x) (list_any p xs) (any_in p xs a (n, omega (arith, l), is) e)

pub marked : (xs : List Entry) (i : ℕ) → i < length xs → slice_index_or (all_true xs) i false ≡ true
marked [] i l = absurd (omega (arith, l))
marked (x ∷ xs) zero l = refl
marked (x ∷ xs) (suc i) l = marked xs i (omega (arith, l))

-- whether the one at a position names i
abbrev leads : List Entry → ℕ → ℕ → Bool
leads known i a = option_map_or (list_any (nat_eq i)) (names_of known a) false

leads_by : (o : Option (List ℕ)) (i : ℕ) → option_map_or (list_any (nat_eq i)) o false ≡ true → (cs : List ℕ) × (o ≡ Some cs) × (list_any (nat_eq i) cs ≡ true)
leads_by None i e = absurd cc
leads_by (Some cs) i e = (cs, refl, e)

-- what a search from i finds
abbrev found : List Entry → ℕ → State
found known i = walk (all_true known) (names_of known) (start (i ∷ [])) (length (all_true known) + 1)

abbrev in_cycle : List Entry → ℕ → Bool
in_cycle known i = list_any (leads known i) (found known i).found

module _ (ends : Ends) (reached : FindsReached) (once : FindsOnce) (known : List Entry) (i : ℕ) (inside : i < length known) where
  long : length (all_true known) ≡ length known
  long = length-map known (λ x. true)

  roots : AreRoots (all_true known) (i ∷ [])
  unfolding IsDistinct
  roots = record { distinct = (tt, tt); below = below }
    where
      below : (n d : ℕ) → n < 1 → slice_index_or (i ∷ []) n d < length (all_true known)
      below zero d l = omega (arith, long, inside)
      below (suc n) d l = absurd (omega (arith, l))

  next_below : (c : ℕ) → next (found known i) ≡ Some c → c < length known
  next_below c e =
      let s = found known i in
      let all = once (all_true known) (names_of known) (i ∷ []) (length (all_true known) + 1) roots in
      let here : c < length (all_true known) = subst (λ x. x < length (all_true known)) (get_or_from_slice_get s.found s.asked c c e) (all.below s.asked c (slice_get_within s.found s.asked c e)) in
      omega (arith, here, long)

  asked : (o : Option ℕ) → ((c : ℕ) → o ≡ Some c → c < length known) → option_and_then (names_of known) o ≡ None → o ≡ None
  asked None below none = refl
  asked (Some c) below none = elim (slice_get_cases known c).1 [
    | inl p ↦ absurd (let bad : Some (named_by (names known) p.0.2) ≡ None = sym (ap (option_map (λ (e : Entry). named_by (names known) e.2)) p.2) ∙ none in cc)
    | inr p ↦ absurd (omega (arith, p.0, below c refl))
  ]

  all_asked : next (found known i) ≡ None
  all_asked = asked (next (found known i)) next_below (ends (all_true known) (names_of known) (i ∷ []) roots)

  yes : in_cycle known i ≡ true → IsInCycle known i
  yes e =
      let a = some_in (leads known i) (found known i).found e in
      let path = (reached (all_true known) (names_of known) (i ∷ []) (length (all_true known) + 1) all_asked a.0).0 a.1 in
      let cs = leads_by (names_of known a.0) i a.2 in
      (path.0, (a.0, path.1, (cs.0, cs.1, Contains-from_any {eq = nat_eq} exact_unsigned_eq i cs.0 cs.2, marked known i inside)))

  no : IsInCycle known i → in_cycle known i ≡ true
  no (n, (a, path, (cs, has, inner, m))) =
      any_in (leads known i) (found known i).found a
      ((reached (all_true known) (names_of known) (i ∷ []) (length (all_true known) + 1) all_asked a).1 (n, path))
      (ap (λ (o : Option (List ℕ)). option_map_or (list_any (nat_eq i)) o false) has ∙ list_any-from_Contains nat_eq_equiv i cs inner)

abbrev value : List Entry → ℕ → Const
value known i = if in_cycle known i then k.Cycle else value_at known (length known) i

is_value : Ends → FindsReached → FindsOnce → (known : List Entry) (i : ℕ) → i < length known → IsValue known i (value known i)
is_value ends reached once known i inside = by (in_cycle known i) refl
  where
    by : (b : Bool) → in_cycle known i ≡ b → IsValue known i (if b then k.Cycle else value_at known (length known) i)
    by true e = record { cycle = λ h. refl; value = λ h. absurd (h (yes ends reached once known i inside e)) }
    by false e = record { cycle = λ h. absurd (let bad : true ≡ false = sym (no ends reached once known i inside h) ∙ e in cc); value = λ h. refl }

abbrev made : (ℕ → Const) → List Entry → ℕ → List Const
made f [] i = []
made f (x ∷ xs) i = f i ∷ made f xs (i + 1)

made_long : (f : ℕ → Const) (xs : List Entry) (i : ℕ) → length (made f xs i) ≡ length xs
made_long f [] i = refl
made_long f (x ∷ xs) i = omega (arith, made_long f xs (i + 1))

made_at : (f : ℕ → Const) (xs : List Entry) (i n : ℕ) (c : Const) → slice_get (made f xs i) n ≡ Some c → (n < length xs) × (f (i + n) ≡ c)
made_at f [] i n c e = absurd cc
made_at f (x ∷ xs) i zero c e = (omega arith, (let at : i + 0 ≡ i = omega arith in let is : f i ≡ c = cc in ap f at ∙ is))
made_at f (x ∷ xs) i (suc n) c e = (let r = made_at f xs (i + 1) n c e in let at : i + suc n ≡ i + 1 + n = omega arith in (omega (arith, r.0), ap f at ∙ r.1))

pub there : Ends → FindsReached → FindsOnce → (known : List Entry) → (cs : List Const) × AreValues known cs
there ends reached once known = (made (value known) known 0, record { all = made_long (value known) known 0; each = each })
  where
    each : (i : ℕ) (c : Const) → slice_get (made (value known) known 0) i ≡ Some c → IsValue known i c
    each i c e =
        let r = made_at (value known) known 0 i c e in
        let at : i ≡ 0 + i = omega arith in
        subst (IsValue known i) (ap (value known) at ∙ r.1) (is_value ends reached once known i r.0)
