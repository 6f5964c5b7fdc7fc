-- The value of a constant depends on the constants that it reaches, and on no others.
use Rattle.std.proofs.Common.{◌≡◌, ◌⊎◌, inl, inr, ℕ, ℤ, zero, suc, ◌<◌, ◌||◌, Bool, true, false, List, [], ◌∷◌, length, refl, sym, ap, subst, ◌∙◌, arith, if◌then◌else◌}
use Rattle.std.specs.Prelude.{Option, Some, None, is_none, slice_get, slice_index_or, option_and_then}
use Rattle.std.specs.List.{AllByRecursion, Contains, cons_option, list_any}
use Rattle.std.specs.Option.{option_map, option_map_or}
use Rattle.std.specs.Ordering.{int_eq}
use Rattle.std.proofs.lemmas.Bool.{cases_lt}
use Rattle.std.proofs.lemmas.Bool.Decides.{Decides-int_eq}
use Rattle.std.proofs.lemmas.List.{length-map}
use Rattle.std.proofs.lemmas.Option.{slice_get_cases, slice_get_within}
use Rattle.rs_tree.specs.declared.answers.Const.{Const as Value}
use Rattle.rs_tree.specs.declared.answers.Const.TheVariants as k
use Rattle.rs_tree.specs.declared.answers.Found.{Found}
use Rattle.rs_tree.specs.declared.answers.Found.TheVariants as f
use Rattle.rs_tree.specs.declared.place.Place.{Place}
use Rattle.rs_tree.specs.declared.tree.Path as path
use Rattle.rs_tree.specs.declared.tree.Typ.{Typ}
use Rattle.rs_tree.specs.Plain.{at_of, Exp, Definition, Const, Func, definition}
use Rattle.rs_tree.specs.Leaves.{filled}
use Rattle.rs_lookup.specs.Places.{Name, place_from, place_name, same}
use Rattle.rs_reach.specs.Reached.{every}
use Rattle.rs_reach.specs.Search.{Path}
use Rattle.rs_types.specs.Types.{need, sig_at}
use Rattle.rs_value.specs.Value.{value}
use Rattle.rs_const.specs.Constants.{AreValues, Entry, IsInCycle, IsValue, const_of, const_wrongs, context_of, given_by, is_some_wrong, named_by, names, names_of, number, sig_of, sigs_of, value_at, worth, worth_by}
use Rattle.rs_const.proofs.Lists.{place_below}
use Rattle.rs_queries.specs.Known.{value_at as known_at}
use Rattle.rs_plans.proofs.Fresh.{all_weaker, same_is}
use Rattle.plan_laws.specs.Agree.{Agrees, EntriesAgree, entry_at}
use Rattle.plan_laws.proofs.Agree.{two_same, type_same, wrongs_same}
use Rattle.plan_laws.proofs.Lookups.{entry_name, found_in, found_next, next_at}
use Rattle.plan_laws.proofs.Steady.{settled}
use Rattle.plan_laws.proofs.Wrong.{exp_agrees}

-- ---- Entries by their names.

-- the first constant of a name has it
pub named_so : (q : Name) (known : List Entry) (e : Entry) → entry_at q known ≡ Some e → entry_name e ≡ q
named_so q [] e h = absurd (cc)
named_so q (x ∷ known) e h = by (same q (entry_name x)) refl (sym (next_at entry_name q x known) ∙ h) (named_so q known e)
  where
    by : (b : Bool) → same q (entry_name x) ≡ b → (if b then Some x else entry_at q known) ≡ Some e → (entry_at q known ≡ Some e → entry_name e ≡ q) → entry_name e ≡ q
    by true is h rest = (let it : x ≡ e = cc in sym (same_is q (entry_name x) is ∙ ap entry_name it))
    by false is h rest = rest h

pub got : (known : List Entry) (q : Name) (i : ℕ) → place_from q 0 (names known) ≡ Some i → (e : Entry) × (slice_get known i ≡ Some e)
got known q i h = elim (slice_get_cases known i).1 [
  | inl in_it ↦ (in_it.0, in_it.2)
  | inr past ↦ absurd (let below = place_below q 0 (names known) i h in let long = length-map known entry_name in omega (arith, past.0, below, long))
]

-- the signature of a constant
pub sig_known : (q : Name) (known : List Entry) → sig_at q (sigs_of known) ≡ option_map (λ (e : Entry). (sig_of e).1) (entry_at q known)
sig_known q [] = refl
sig_known q (x ∷ known) = found_next q (sig_of x) (sigs_of known) ∙ by (same q (entry_name x)) (sig_known q known) ∙ sym (ap (option_map (λ (e : Entry). (sig_of e).1)) (next_at entry_name q x known))
  where
    by : (b : Bool) → sig_at q (sigs_of known) ≡ option_map (λ (e : Entry). (sig_of e).1) (entry_at q known)
        → (if b then Some (sig_of x).1 else found_in q (sigs_of known)) ≡ option_map (λ (e : Entry). (sig_of e).1) (if b then Some x else entry_at q known)
    by true rest = refl
    by false rest = rest

marked : (xs : List Entry) (i : ℕ) → i < length xs → slice_index_or (every xs) i false ≡ true
marked [] i l = absurd (omega (arith, l))
marked (x ∷ xs) zero l = refl
marked (x ∷ xs) (suc i) l = marked xs i (omega (arith, l))

-- ---- Values are one or another.

bools : (a b : Bool) → ¬ (¬ (k.Bool a ≡ k.Bool b)) → k.Bool a ≡ k.Bool b
bools true true h = refl
bools true false h = absurd (h (λ e. cc))
bools false true h = absurd (h (λ e. cc))
bools false false h = refl

stable : (a b : Value) → ¬ (¬ (a ≡ b)) → a ≡ b
stable (k.Int m) (k.Int n) h = by (int_eq m n) refl
  where
    by : (r : Bool) → int_eq m n ≡ r → k.Int m ≡ k.Int n
    by true e = ap k.Int ((Decides-int_eq m n).0 e)
    by false e = absurd (h (λ q. (let same : m ≡ n = cc in let bad : true ≡ false = sym ((Decides-int_eq m n).1 same) ∙ e in cc)))
stable (k.Bool a) (k.Bool b) h = bools a b h
stable k.Cycle k.Cycle h = refl
stable k.Overflow k.Overflow h = refl
stable k.DivZero k.DivZero h = refl
stable k.Bad k.Bad h = refl
stable a b h = absurd (h (λ e. cc))

-- ---- The same constant in two lists.

pub record Twin (one other : List Entry) (a b : ℕ) : Type 0 where
  pub name : Name
  pub entry : Entry
  pub here : place_from name 0 (names one) ≡ Some a
  pub there : place_from name 0 (names other) ≡ Some b
  pub mine : slice_get one a ≡ Some entry
  pub its : slice_get other b ≡ Some entry

abbrev swapped : (one other : List Entry) (a b : ℕ) → Twin one other a b → Twin other one b a
swapped one other a b t = record { name = t.name; entry = t.entry; here = t.there; there = t.here; mine = t.its; its = t.mine }

-- neither list has one of this name, or both have the same
abbrev IsBoth : List Entry → List Entry → Name → Type 0
IsBoth one other q =
    ((place_from q 0 (names one) ≡ None) × (place_from q 0 (names other) ≡ None))
    ⊎ ((a : ℕ) × (b : ℕ) × (place_from q 0 (names one) ≡ Some a) × (place_from q 0 (names other) ≡ Some b) × Twin one other a b)

twin_of : (one other : List Entry) (q : Name) → entry_at q one ≡ entry_at q other → IsBoth one other q
twin_of one other q same = by (place_from q 0 (names one)) refl (place_from q 0 (names other)) refl same
  where
    by : (o : Option ℕ) → place_from q 0 (names one) ≡ o → (r : Option ℕ) → place_from q 0 (names other) ≡ r → option_and_then (slice_get one) o ≡ option_and_then (slice_get other) r → IsBoth one other q
    by None here None there h = inl (here, there)
    by None here (Some b) there h = absurd (let e = got other q b there in let bad : None ≡ Some e.0 = h ∙ e.1 in cc)
    by (Some a) here None there h = absurd (let e = got one q a here in let bad : Some e.0 ≡ None = sym e.1 ∙ h in cc)
    by (Some a) here (Some b) there h = (let e = got one q a here in inr (a, b, here, there, record { name = q; entry = e.0; here = here; there = there; mine = e.1; its = sym h ∙ e.1 }))

-- a number has one twin
one_twin : (one other : List Entry) (a b y : ℕ) → Twin one other a b → Twin one other a y → b ≡ y
one_twin one other a b y t s =
    let both : Some t.entry ≡ Some s.entry = sym t.mine ∙ s.mine in
    let same : t.entry ≡ s.entry = cc in
    let first : entry_at t.name one ≡ Some t.entry = ap (option_and_then (slice_get one)) t.here ∙ t.mine in
    let second : entry_at s.name one ≡ Some s.entry = ap (option_and_then (slice_get one)) s.here ∙ s.mine in
    let name : t.name ≡ s.name = sym (named_so t.name one t.entry first) ∙ ap entry_name same ∙ named_so s.name one s.entry second in
    let at : Some b ≡ Some y = sym t.there ∙ ap (λ q. place_from q 0 (names other)) name ∙ s.there in
    cc

-- each of a constant's names is one of a constant in both lists, or of none in either
abbrev IsClosed : List Entry → List Entry → Type 0
IsClosed one other = (a b : ℕ) (t : Twin one other a b) → AllByRecursion (EntriesAgree one other) t.entry.2

module _ (one other : List Entry) (closed : IsClosed one other) where
  -- ---- What they name, and cycles.

  named_over : (fs : List Found) → AllByRecursion (EntriesAgree one other) fs → (x : ℕ) → Contains (named_by (names one) fs) x → (y : ℕ) × Twin one other x y × Contains (named_by (names other) fs) y
  named_over [] h x has = absurd (omega (arith, has.1))
  named_over (f.Local ∷ fs) h x has = named_over fs h.1 x has
  named_over (f.Item p ∷ fs) h x has = by (twin_of one other (place_name p) h.0) (named_over fs h.1)
    where
      front : (a b : ℕ) → Twin one other a b → Contains (a ∷ named_by (names one) fs) x → ((x : ℕ) → Contains (named_by (names one) fs) x → (y : ℕ) × Twin one other x y × Contains (named_by (names other) fs) y)
          → (y : ℕ) × Twin one other x y × Contains (b ∷ named_by (names other) fs) y
      front a b t (zero, l, e) rest = (b, subst (λ a. Twin one other a b) e t, (0, omega arith, refl))
      front a b t (suc n, l, e) rest = (let r = rest x (n, omega (arith, l), e) in (r.0, r.1, (suc r.2.0, omega (arith, r.2.1), r.2.2)))

      by : IsBoth one other (place_name p) → ((x : ℕ) → Contains (named_by (names one) fs) x → (y : ℕ) × Twin one other x y × Contains (named_by (names other) fs) y)
          → (y : ℕ) × Twin one other x y × Contains (named_by (names other) (f.Item p ∷ fs)) y
      by (inl none) rest =
          let r = rest x (subst (λ o. Contains (cons_option o (named_by (names one) fs)) x) none.0 has) in
          (r.0, r.1, subst (λ o. Contains (cons_option o (named_by (names other) fs)) r.0) (sym none.1) r.2)
      by (inr some) rest =
          let r = front some.0 some.1 some.4 (subst (λ o. Contains (cons_option o (named_by (names one) fs)) x) some.2 has) rest in
          (r.0, r.1, subst (λ o. Contains (cons_option o (named_by (names other) fs)) r.0) (sym some.3) r.2)
  named_over (f.Private ∷ fs) h x has = named_over fs h.1 x has
  named_over (f.Absent ∷ fs) h x has = named_over fs h.1 x has

  path_over : (a b : ℕ) → Twin one other a b → (n x : ℕ) → Path (every one) (names_of one) (a ∷ []) n x → (y : ℕ) × Twin one other x y × Path (every other) (names_of other) (b ∷ []) n y
  path_over a b t zero x (zero, l, e) = (b, subst (λ a. Twin one other a b) e t, (0, omega arith, refl))
  path_over a b t zero x (suc n, l, e) = absurd (omega (arith, l))
  path_over a b t (suc n) x (z, way, (cs, is, inside, m)) =
      let r = path_over a b t n z way in
      let both : Some cs ≡ Some (named_by (names one) r.1.entry.2) = sym is ∙ ap (option_map (λ (e : Entry). named_by (names one) e.2)) r.1.mine in
      let same : cs ≡ named_by (names one) r.1.entry.2 = cc in
      let s = named_over r.1.entry.2 (closed z r.0 r.1) x (subst (λ l. Contains l x) same inside) in
      (s.0, s.1, (r.0, r.2, (named_by (names other) r.1.entry.2, ap (option_map (λ (e : Entry). named_by (names other) e.2)) r.1.its, s.2, marked other s.0 (slice_get_within other s.0 s.1.entry s.1.its))))

  cycle_over : (a b : ℕ) → Twin one other a b → IsInCycle one a → IsInCycle other b
  cycle_over a b t (n, way) =
      (let r = path_over a b t (suc n) a way in (n, subst (Path (every other) (names_of other) (b ∷ []) (suc n)) (sym (one_twin one other a b r.0 t r.1)) r.2))

  -- ---- Values.

  given_same : (v w : ℕ → Option ℤ) → ((a b : ℕ) → Twin one other a b → v a ≡ w b) → (fs : List Found) → AllByRecursion (EntriesAgree one other) fs → given_by v (names one) fs ≡ given_by w (names other) fs
  given_same v w same [] h = refl
  given_same v w same (f.Local ∷ fs) h = ap (λ l. None ∷ l) (given_same v w same fs h.1)
  given_same v w same (f.Item p ∷ fs) h = ap (λ o. o ∷ given_by v (names one) fs) (by (twin_of one other (place_name p) h.0)) ∙ ap (λ l. option_and_then w (place_from (place_name p) 0 (names other)) ∷ l) (given_same v w same fs h.1)
    where
      by : IsBoth one other (place_name p) → option_and_then v (place_from (place_name p) 0 (names one)) ≡ option_and_then w (place_from (place_name p) 0 (names other))
      by (inl none) = ap (option_and_then v) none.0 ∙ sym (ap (option_and_then w) none.1)
      by (inr some) = ap (option_and_then v) some.2 ∙ same some.0 some.1 some.4 ∙ sym (ap (option_and_then w) some.3)
  given_same v w same (f.Private ∷ fs) h = ap (λ l. None ∷ l) (given_same v w same fs h.1)
  given_same v w same (f.Absent ∷ fs) h = ap (λ l. None ∷ l) (given_same v w same fs h.1)

  sig_agrees : (b : Found) → EntriesAgree one other b → Agrees (sigs_of one) (sigs_of other) b
  sig_agrees f.Local h = tt
  sig_agrees (f.Item p) h = sig_known (place_name p) one ∙ ap (option_map (λ (e : Entry). (sig_of e).1)) h ∙ sym (sig_known (place_name p) other)
  sig_agrees f.Private h = tt
  sig_agrees f.Absent h = tt

  wrong_same : (typ : Typ) (ex : Exp path.Path) (fs : List Found) → AllByRecursion (EntriesAgree one other) fs → const_wrongs (sigs_of one) typ ex fs ≡ const_wrongs (sigs_of other) typ ex fs
  wrong_same typ ex fs h =
      let agree = exp_agrees (sigs_of one) (sigs_of other) fs ex (all_weaker sig_agrees fs h) in
      let it = filled f.Absent fs ex in
      two_same (wrongs_same (sigs_of other) (context_of (sigs_of one)) it agree) (ap (need (at_of ex) typ) (type_same (sigs_of other) (context_of (sigs_of one)) it agree))

  worth_same : (d : Definition path.Path) (fs : List Found) (g h : List (Option ℤ)) → AllByRecursion (EntriesAgree one other) fs → g ≡ h → worth (sigs_of one) d fs g ≡ worth (sigs_of other) d fs h
  worth_same (Const typ ex) fs g h all same =
      ap (λ ds. if is_some_wrong ds || list_any is_none g then k.Bad else const_of typ (value (filled None g ex))) (wrong_same typ ex fs all) ∙ ap (λ l. worth (sigs_of other) (Const typ ex) fs l) same
  worth_same (Func inlined params gives stmts tail) fs g h all same = refl

  values_same : (n a b : ℕ) → Twin one other a b → value_at one n a ≡ value_at other n b
  values_same zero a b t = refl
  values_same (suc n) a b t =
      let v : ℕ → Option ℤ = λ j. number (value_at one n j) in
      let w : ℕ → Option ℤ = λ j. number (value_at other n j) in
      let all = closed a b t in
      ap (λ o. option_map_or (worth_by v one) o k.Bad) t.mine
      ∙ worth_same (definition t.entry.1.body) t.entry.2 (given_by v (names one) t.entry.2) (given_by w (names other) t.entry.2) all (given_same v w (λ a b t. ap number (values_same n a b t)) t.entry.2 all)
      ∙ sym (ap (λ o. option_map_or (worth_by w other) o k.Bad) t.its)

  -- as many steps as there are constants are enough in either
  ends_same : (a b : ℕ) → Twin one other a b → value_at one (length one) a ≡ value_at other (length other) b
  ends_same a b t = elim (cases_lt (length one) (length other)) [
    | inl less ↦ sym (settled one (length other) (omega (arith, less)) a) ∙ values_same (length other) a b t
    | inr more ↦ values_same (length one) a b t ∙ settled other (length one) more b
  ]

module _ (one other : List Entry) (closed : IsClosed one other) where
  agree_back : (b : Found) → EntriesAgree one other b → EntriesAgree other one b
  agree_back f.Local h = tt
  agree_back (f.Item p) h = sym h
  agree_back f.Private h = tt
  agree_back f.Absent h = tt

  closed_back : IsClosed other one
  closed_back b a t = all_weaker agree_back t.entry.2 (closed a b (swapped other one b a t))

  one_value : (a b : ℕ) (c d : Value) → Twin one other a b → IsValue one a c → IsValue other b d → c ≡ d
  one_value a b c d t x y = stable c d (λ apart.
      (let no : ¬ IsInCycle one a = λ h. apart (x.cycle h ∙ sym (y.cycle (cycle_over one other closed a b t h))) in
      let none : ¬ IsInCycle other b = λ h. no (cycle_over other one closed_back b a (swapped one other a b t) h) in
      apart (x.value no ∙ ends_same one other closed a b t ∙ sym (y.value none))))

pub at_all : {X : Type 0} (P : X → Type 0) (xs : List X) (i : ℕ) (x : X) → AllByRecursion P xs → slice_get xs i ≡ Some x → P x
at_all P [] i x h e = absurd (cc)
at_all P (y ∷ xs) zero x h e = (let is : y ≡ x = cc in subst P is h.0)
at_all P (y ∷ xs) (suc i) x h e = at_all P xs i x h.1 e

got_value : (values : List Value) (known : List Entry) (i : ℕ) (e : Entry) → length values ≡ length known → slice_get known i ≡ Some e → (c : Value) × (slice_get values i ≡ Some c)
got_value values known i e long h = elim (slice_get_cases values i).1 [
  | inl in_it ↦ (in_it.0, in_it.2)
  | inr past ↦ absurd (let inside = slice_get_within known i e h in omega (arith, past.0, inside, long))
]

-- the value at a place, by either list
pub value_same : (one other : List Entry) (values more : List Value) → AreValues one values → AreValues other more → AllByRecursion (λ (e : Entry). AllByRecursion (EntriesAgree one other) e.2) one
    → (at : Place) → entry_at (place_name at) one ≡ entry_at (place_name at) other → known_at one values at ≡ known_at other more at
value_same one other values more are too closed at same = by (twin_of one other (place_name at) same)
  where
    by : IsBoth one other (place_name at) → known_at one values at ≡ known_at other more at
    by (inl none) = ap (option_and_then (slice_get values)) none.0 ∙ sym (ap (option_and_then (slice_get more)) none.1)
    by (inr some) =
        let t = some.4 in
        let c = got_value values one some.0 t.entry are.all t.mine in
        let d = got_value more other some.1 t.entry too.all t.its in
        let its = one_value one other (λ a b t. at_all (λ (e : Entry). AllByRecursion (EntriesAgree one other) e.2) one a t.entry closed t.mine) some.0 some.1 c.0 d.0 t (are.each some.0 c.0 c.1) (too.each some.1 d.0 d.1) in
        ap (option_and_then (slice_get values)) some.2 ∙ c.1 ∙ ap Some its ∙ sym (ap (option_and_then (slice_get more)) some.3 ∙ d.1)
