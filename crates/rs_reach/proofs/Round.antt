-- What classes that were tested say of cycles.
use Rattle.std.proofs.Common.{◌≡◌, ℕ, ◌<◌, ◌⊎◌, inl, inr, zero, suc, Bool, true, false, ◌&&◌, ◌||◌, nat_eq, List, [], ◌∷◌, ◌++◌, length, get_or, set, refl, sym, ap, subst, ◌∙◌, arith, Vec, Global}
use Rattle.std.specs.Prelude.{◌↔◌, Some, None, IsTrue, nat_lt, slice_get, slice_index_or}
use Rattle.std.specs.Option.{option_map}
use Rattle.std.specs.List.{Contains, list_all, list_any}
use Rattle.std.proofs.lemmas.Bool.{eqb-true, ltb-true, lt-ltb}
use Rattle.std.proofs.lemmas.List.{length-map}
use Rattle.std.proofs.lemmas.Option.{slice_get_cases, slice_get-get_or, slice_get_past, get_or_from_slice_get}
use Rattle.rs_reach.specs.Search.{Calls, Path}
use Rattle.rs_reach.specs.Reached.{every, named, IsReachedFrom}
use Rattle.rs_reach.specs.declared.classes.Classes.{Classes}
use Rattle.rs_reach.specs.Cycles.{AllFit, AreCyclic, AreEntered, back_of, forth_of, is_onward, is_own, is_placed, is_same, is_toward, pivot_of, IsEntered}
use Rattle.rs_reach.proofs.Found.{and_true, may_below}
use Rattle.rs_reach.proofs.Onward.{only, reaches_none}

-- ---- Tests of the elements of a list.

pub all_in : (p : ℕ → Bool) (xs : List ℕ) (b : ℕ) → list_all p xs ≡ true → Contains xs b → p b ≡ true
all_in p [] b all h = absurd (omega (arith, h.1))
all_in p (x ∷ xs) b all (zero, l, e) = sym (ap p e) ∙ (and_true (p x) (list_all p xs) all).0
all_in p (x ∷ xs) b all (suc k, l, e) = all_in p xs b (and_true (p x) (list_all p xs) all).1 (k, omega (arith, l), e)

some_in : (p : ℕ → Bool) (xs : List ℕ) → list_any p xs ≡ true → (b : ℕ) × Contains xs b × (p b ≡ true)
some_in p [] any = absurd cc
some_in p (x ∷ xs) any = by (p x) refl any (some_in p xs)
  where
    by : (b : Bool) → p x ≡ b → (b || list_any p xs) ≡ true → (list_any p xs ≡ true → (y : ℕ) × Contains xs y × (p y ≡ true)) → (y : ℕ) × Contains (x ∷ xs) y × (p y ≡ true)
    by true is e more = (x, (0, omega arith, refl), is)
    by false is e more = let s = more e in (s.0, (suc s.1.0, omega (arith, s.1.1), s.1.2), s.2)

neither : (a b : Bool) → (a || b) ≡ false → (a ≡ false) × (b ≡ false)
neither true b e = absurd cc
neither false b e = (refl, e)

none_in : (p : ℕ → Bool) (xs : List ℕ) (b : ℕ) → list_any p xs ≡ false → Contains xs b → p b ≡ false
none_in p [] b none h = absurd (omega (arith, h.1))
none_in p (x ∷ xs) b none (zero, l, e) = sym (ap p e) ∙ (neither (p x) (list_any p xs) none).0
none_in p (x ∷ xs) b none (suc k, l, e) = none_in p xs b (neither (p x) (list_any p xs) none).1 (k, omega (arith, l), e)

either : (a b : Bool) → (a || b) ≡ true → (a ≡ true) ⊎ (b ≡ true)
either true b e = inl refl
either false b e = inr e

lacking : (a b : Bool) → a ≡ true → (a && b) ≡ false → b ≡ false
lacking true b e h = h
lacking false b e h = absurd cc

-- an element of a list that has one more is an old one, or the last
pub got_pushed : {A : Type 0} (xs : List A) (x y : A) (i : ℕ) → slice_get (xs ++ x ∷ []) i ≡ Some y → (slice_get xs i ≡ Some y) ⊎ ((i ≡ length xs) × (x ≡ y))
got_pushed [] x y zero e = inr (refl, cc)
got_pushed [] x y (suc i) e = absurd cc
got_pushed (z ∷ xs) x y zero e = inl e
got_pushed (z ∷ xs) x y (suc i) e = elim (got_pushed xs x y i e) [ inl h ↦ inl h | inr h ↦ inr (ap (λ n. suc n) h.0, h.1) ]

-- a mark that is set stood there, where none is added
pub set_before : (xs : List Bool) (v : ℕ) → slice_index_or (xs ++ false ∷ []) v false ≡ true → slice_index_or xs v false ≡ true
set_before [] zero e = absurd cc
set_before [] (suc v) e = absurd cc
set_before (x ∷ xs) zero e = e
set_before (x ∷ xs) (suc v) e = set_before xs v e

-- or is the one that is set
pub set_now : (xs : List Bool) (i v : ℕ) → slice_index_or (set xs i true) v false ≡ true → (slice_index_or xs v false ≡ true) ⊎ (v ≡ i)
set_now [] i v e = inl e
set_now (x ∷ xs) zero zero e = inr refl
set_now (x ∷ xs) zero (suc v) e = inl e
set_now (x ∷ xs) (suc i) zero e = inl e
set_now (x ∷ xs) (suc i) (suc v) e = elim (set_now xs i v e) [ inl h ↦ inl h | inr h ↦ inr (ap (λ n. suc n) h) ]

-- ---- Steps.

marked : (its : List (Vec ℕ Global)) (v : ℕ) → v < length its → slice_index_or (every its) v false ≡ true
marked [] v l = absurd (omega (arith, l))
marked (x ∷ its) zero l = refl
marked (x ∷ its) (suc v) l = marked its v (omega (arith, l))

below : (its : List (Vec ℕ Global)) (v : ℕ) → slice_index_or (every its) v false ≡ true → v < length its
below its v m = omega (arith, may_below (every its) v m, length-map its (λ x. true))

pub named_at : (its : List (Vec ℕ Global)) (v : ℕ) (x : Vec ℕ Global) → v < length its → x ≡ get_or its v x → named its v ≡ Some x.items
named_at its v x l is = ap (option_map (λ (y : Vec ℕ Global). y.items)) (slice_get-get_or its v x l ∙ ap Some (sym is))

pub listed_below : (its : List (Vec ℕ Global)) (v : ℕ) (names : List ℕ) → named its v ≡ Some names → v < length its
listed_below its v names e = elim (slice_get_cases its v).1 [
  | inl p ↦ p.1
  | inr p ↦ absurd (let bad : None ≡ Some names = sym (ap (option_map (λ (x : Vec ℕ Global). x.items)) p.1) ∙ e in cc)
]

listed : (its : List (Vec ℕ Global)) (v : ℕ) → v < length its → (names : List ℕ) × (named its v ≡ Some names)
listed [] v l = absurd (omega (arith, l))
listed (x ∷ its) zero l = (x.items, refl)
listed (x ∷ its) (suc v) l = listed its v (omega (arith, l))

module _ (its : List (Vec ℕ Global)) where
  -- a leads to b
  abbrev Leads : ℕ → ℕ → Type 0
  Leads a b = Calls (every its) (named its) a b

  leads : (a b : ℕ) (names : List ℕ) → named its a ≡ Some names → Contains names b → b < length its → Leads a b
  leads a b names is inside l = (names, is, inside, marked its b l)

  one : (a b : ℕ) → Leads a b → IsReachedFrom its a b
  one a b step = (0, (a, (0, omega arith, refl), step))

  further : (a b d : ℕ) → IsReachedFrom its a b → Leads b d → IsReachedFrom its a d
  further a b d r step = (suc r.0, (b, r.1, step))

  join : (a b d : ℕ) → IsReachedFrom its a b → IsReachedFrom its b d → IsReachedFrom its a d
  join a b d r s = onto s.0 d s.1
    where
      onto : (m d : ℕ) → Path (every its) (named its) (b ∷ []) (suc m) d → IsReachedFrom its a d
      onto zero d (x, root, step) = further a x d (subst (IsReachedFrom its a) (only b x root) r) step
      onto (suc m) d (x, path, step) = further a x d (onto m x path) step

  -- a is b, or reaches it
  abbrev Meets : ℕ → ℕ → Type 0
  Meets a b = (a ≡ b) ⊎ IsReachedFrom its a b

  on : (a b d : ℕ) → IsReachedFrom its a b → Meets b d → IsReachedFrom its a d
  on a b d r (inl e) = subst (IsReachedFrom its a) e r
  on a b d r (inr s) = join a b d r s

  module _ (c : Classes) (entered : List Bool) (into : AreEntered its c entered) (fit : AllFit its c entered) where
    same_pivot : (v w : ℕ) → is_same c v w ≡ true → pivot_of c v ≡ pivot_of c w
    same_pivot v w e = eqb-true (pivot_of c v) (pivot_of c w) e

    -- v is its pivot, or leads toward it and is entered
    record Placed (v : ℕ) (names : List ℕ) : Type 0 where
      toward : (w : ℕ) × Contains names w × (is_toward (length its) c v w ≡ true)
      from : IsEntered its c v

    placed : (v : ℕ) (names : List ℕ) → named its v ≡ Some names → (pivot_of c v ≡ v) ⊎ Placed v names
    placed v names is = elim (either (nat_eq (pivot_of c v) v) (list_any (is_toward (length its) c v) names && slice_index_or entered v false) (and_true (list_all (is_onward c v) names) (is_placed (length its) c entered v names) (fit v names is)).1) [
      | inl e ↦ inl (eqb-true (pivot_of c v) v e)
      | inr e ↦
          (let both = and_true (list_any (is_toward (length its) c v) names) (slice_index_or entered v false) e in
          inr (record { toward = some_in (is_toward (length its) c v) names both.0; from = into v both.1 }))
    ]

    to_pivot : (k v : ℕ) → back_of c v < k → v < length its → Meets v (pivot_of c v)
    to_pivot zero v less l = absurd (omega (arith, less))
    to_pivot (suc k) v less l = by (placed v (listed its v l).0 (listed its v l).1) (to_pivot k)
      where
        by : (pivot_of c v ≡ v) ⊎ Placed v (listed its v l).0 → ((w : ℕ) → back_of c w < k → w < length its → Meets w (pivot_of c w)) → Meets v (pivot_of c v)
        by (inl e) nearer_ones = inl (sym e)
        by (inr p) nearer_ones =
            let w = p.toward.0 in
            let steps = and_true (is_own (length its) c v w) (nat_lt (back_of c w) (back_of c v)) p.toward.2 in
            let own = and_true (nat_lt w (length its)) (is_same c v w) steps.0 in
            let low = ltb-true w (length its) own.0 in
            let nearer = ltb-true (back_of c w) (back_of c v) steps.1 in
            let rest = subst (Meets w) (sym (same_pivot v w own.1)) (nearer_ones w (omega (arith, nearer, less)) low) in
            inr (on v w (pivot_of c v) (one v w (leads v w (listed its v l).0 (listed its v l).1 p.toward.1 low)) rest)

    from_pivot : (k v : ℕ) → forth_of c v < k → v < length its → Meets (pivot_of c v) v
    from_pivot zero v less l = absurd (omega (arith, less))
    from_pivot (suc k) v less l = by (placed v (listed its v l).0 (listed its v l).1) (from_pivot k)
      where
        step : (u : ℕ) → Leads u v → Meets (pivot_of c v) u → IsReachedFrom its (pivot_of c v) v
        step u s (inl e) = subst (λ x. IsReachedFrom its x v) (sym e) (one u v s)
        step u s (inr r) = further (pivot_of c v) u v r s

        by : (pivot_of c v ≡ v) ⊎ Placed v (listed its v l).0 → ((u : ℕ) → forth_of c u < k → u < length its → Meets (pivot_of c u) u) → Meets (pivot_of c v) v
        by (inl e) earlier_ones = inl e
        by (inr p) earlier_ones =
            let u = p.from.from in
            let both = and_true (is_same c u v) (nat_lt (forth_of c u) (forth_of c v)) p.from.entering in
            let earlier = ltb-true (forth_of c u) (forth_of c v) both.1 in
            let low = listed_below its u p.from.names p.from.listed in
            let rest = subst (λ x. Meets x u) (same_pivot u v both.0) (earlier_ones u (omega (arith, earlier, less)) low) in
            inr (step u (leads u v p.from.names p.from.listed p.from.within l) rest)

    -- one that leads to its own class reaches itself
    returns : (v : ℕ) (names : List ℕ) → named its v ≡ Some names → list_any (is_own (length its) c v) names ≡ true → IsReachedFrom its v v
    returns v names is any =
        let s = some_in (is_own (length its) c v) names any in
        let w = s.0 in
        let own = and_true (nat_lt w (length its)) (is_same c v w) s.2 in
        let low = ltb-true w (length its) own.0 in
        let here = listed_below its v names is in
        let to = subst (Meets w) (sym (same_pivot v w own.1)) (to_pivot (suc (back_of c w)) w (omega arith) low) in
        on v (pivot_of c v) v (on v w (pivot_of c v) (one v w (leads v w names is s.1 low)) to) (from_pivot (suc (forth_of c v)) v (omega arith) here)

    -- one that doesn't goes on to later classes alone
    leaves : (v : ℕ) (names : List ℕ) → named its v ≡ Some names → list_any (is_own (length its) c v) names ≡ false → (m b : ℕ) → Path (every its) (named its) (v ∷ []) (suc m) b → back_of c (pivot_of c v) < back_of c (pivot_of c b)
    leaves v names is none zero b (x, root, (cs, has, inside, m)) =
        let both : Some cs ≡ Some names = sym has ∙ ap (named its) (sym (only v x root)) ∙ is in
        let eq : cs ≡ names = cc in
        let here = subst (λ (xs : List ℕ). Contains xs b) eq inside in
        let low = below its b m in
        let other = lacking (nat_lt b (length its)) (is_same c v b) (lt-ltb b (length its) low) (none_in (is_own (length its) c v) names b none here) in
        elim (either (is_same c v b) (nat_lt (back_of c (pivot_of c v)) (back_of c (pivot_of c b))) (all_in (is_onward c v) names b (and_true (list_all (is_onward c v) names) (is_placed (length its) c entered v names) (fit v names is)).0 here)) [
          | inl e ↦ absurd (let bad : true ≡ false = sym e ∙ other in cc)
          | inr e ↦ ltb-true (back_of c (pivot_of c v)) (back_of c (pivot_of c b)) e
        ]
    leaves v names is none (suc m) b (x, path, (cs, has, inside, k)) =
        let before = leaves v names is none m x path in
        elim (either (is_same c x b) (nat_lt (back_of c (pivot_of c x)) (back_of c (pivot_of c b))) (all_in (is_onward c x) cs b (and_true (list_all (is_onward c x) cs) (is_placed (length its) c entered x cs) (fit x cs has)).0 inside)) [
          | inl e ↦ subst (λ p. back_of c (pivot_of c v) < back_of c p) (same_pivot x b e) before
          | inr e ↦ (let less = ltb-true (back_of c (pivot_of c x)) (back_of c (pivot_of c b)) e in omega (arith, before, less))
        ]

    -- so it shows at one look at what a number names whether it reaches itself
    pub own_cycle : (v : ℕ) (names : List ℕ) (b : Bool) → named its v ≡ Some names → b ≡ list_any (is_own (length its) c v) names → IsTrue b ↔ IsReachedFrom its v v
    own_cycle v names b is e = (λ t. returns v names is (sym e ∙ t), λ r. e ∙ (by (list_any (is_own (length its) c v) names) refl r))
      where
        by : (a : Bool) → list_any (is_own (length its) c v) names ≡ a → IsReachedFrom its v v → a ≡ true
        by true is' r = refl
        by false none r = absurd (let less = leaves v names is none r.0 v r.1 in omega (arith, less))

-- a mark tells it of any number, also of one that has no list
pub cyclic_at : (its : List (Vec ℕ Global)) (marks : List Bool) → AreCyclic its marks → (i : ℕ) → (slice_index_or marks i false ≡ true) ↔ IsReachedFrom its i i
cyclic_at its marks are i = elim (slice_get_cases marks i).1 [
  | inl p ↦
      (let same = get_or_from_slice_get marks i p.0 false p.2 in
      let exact = are.each i p.0 p.2 in
      (λ t. exact.0 (sym same ∙ t), λ r. same ∙ exact.1 r))
  | inr p ↦
      (let none : named its i ≡ None = ap (option_map (λ (x : Vec ℕ Global). x.items)) (slice_get_past its i (omega (arith, are.all, p.0))) in
      (λ t. absurd (let low = may_below marks i t in omega (arith, low, p.0)), λ r. absurd (let last = (reaches_none its i i none).1 r in omega (arith, last.1))))
]
