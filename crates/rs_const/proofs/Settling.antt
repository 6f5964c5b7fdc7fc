-- One constant settled more.
use Rattle.std.proofs.Common.{◌≡◌, ℕ, ◌+◌, ◌<◌, ◌≤◌, ◌⊎◌, inl, inr, zero, suc, true, false, List, [], ◌∷◌, length, set, Option, Some, None, refl, sym, ap, subst, ◌∙◌, arith, Vec, Global}
use Rattle.std.specs.Prelude.{is_some, slice_get, option_and_then}
use Rattle.std.specs.List.{list_all, Contains}
use Rattle.std.specs.Option.{option_map, option_map_or}
use Rattle.std.proofs.lemmas.List.{length-set}
use Rattle.std.proofs.lemmas.Option.{slice_get-map, slice_get_within}
use Rattle.rs_tree.specs.declared.answers.Const.{Const}
use Rattle.rs_tree.specs.declared.answers.Const.TheVariants.{Bad}
use Rattle.rs_tree.specs.Plain.{definition}
use Rattle.rs_reach.specs.Reached.{every}
use Rattle.rs_reach.specs.Search.{Path}
use Rattle.rs_const.specs.Constants.{Entry, names, named_by, names_of, number, worth_by, value_at, sigs_of, worth, IsInCycle}
use Rattle.rs_const.specs.State.{Values, Lists, opens, number_at, done, is_done, is_open, is_ready, names_at, AreSettled, AreNames}
use Rattle.rs_const.proofs.Given.{and_true, given_same, none_at, got_set, got_other, done_set, open_is, done_is, is_done_by, all_weaker}
use Rattle.rs_reach.proofs.Round.{all_in}

-- what the lists say that an expression names
pub its_names : (known : List Entry) (its : Lists) (i : ℕ) → AreNames known its → names_of known i ≡ option_map (λ (v : Vec ℕ Global). v.items) (slice_get its i)
its_names known its i are =
    sym (slice_get-map (λ (e : Entry). named_by (names known) e.2) known i)
    ∙ ap (λ (xs : List (List ℕ)). slice_get xs i) (sym are)
    ∙ slice_get-map (λ (v : Vec ℕ Global). v.items) its i

pub names_are : (known : List Entry) (its : Lists) (i : ℕ) (cs : List ℕ) → AreNames known its → names_of known i ≡ Some cs → names_at its i ≡ cs
names_are known its i cs are is = by (slice_get its i) (sym (its_names known its i are) ∙ is)
  where
    by : (o : Option (Vec ℕ Global)) → option_map (λ (v : Vec ℕ Global). v.items) o ≡ Some cs → option_map_or (λ (v : Vec ℕ Global). v.items) o [] ≡ cs
    by None e = absurd cc
    by (Some v) e = cc

pub names_named : (known : List Entry) (its : Lists) (i : ℕ) (e : Entry) → AreNames known its → slice_get known i ≡ Some e → names_at its i ≡ named_by (names known) e.2
names_named known its i e are is = names_are known its i _ are (ap (option_map (λ (x : Entry). named_by (names known) x.2)) is)

-- one that is open isn't settled
open_done : (values : Values) (i : ℕ) → is_open values i ≡ true → is_done values i ≡ false
open_done values i e = ap (λ (o : Option (Option Const)). option_map_or is_some o false) (open_is values i e)

module _ (known : List Entry) (its : Lists) (values : Values) (are : AreNames known its) (s : AreSettled known its values) (i : ℕ) (ready : is_ready its values i ≡ true) where
  opened : is_open values i ≡ true
  opened = (and_true (is_open values i) (list_all (is_done values) (names_at its i)) ready).0

  all : list_all (is_done values) (names_at its i) ≡ true
  all = (and_true (is_open values i) (list_all (is_done values) (names_at its i)) ready).1

  -- what it reaches is settled
  reached : (n b : ℕ) → Path (every known) (names_of known) (i ∷ []) (suc n) b → is_done values b ≡ true
  reached zero b (x, root, (cs, is, inside, m)) =
      let at : i ≡ x = only i x root in
      let here : list_all (is_done values) cs ≡ true = ap (list_all (is_done values)) (sym (names_are known its i cs are (ap (names_of known) at ∙ is))) ∙ all in
      all_in (is_done values) cs b here inside
    where
      only : (a x : ℕ) → Contains (a ∷ []) x → a ≡ x
      only a x (zero, l, e) = e
      only a x (suc k, l, e) = absurd (omega (arith, l))
  reached (suc n) b (x, path, (cs, is, inside, m)) =
      let here : list_all (is_done values) cs ≡ true = ap (list_all (is_done values)) (sym (names_are known its x cs are is)) ∙ s.closed x (reached n x path) in
      all_in (is_done values) cs b here inside

  no_cycle : ¬ IsInCycle known i
  no_cycle (n, path) = (let bad : true ≡ false = sym (reached n i path) ∙ open_done values i opened in absurd cc)

  -- at any bound from here on its value is what the settled ones give
  value_from : (e : Entry) → slice_get known i ≡ Some e → (m : ℕ) → done values ≤ m → value_at known (suc m) i ≡ worth_by (number_at values) known e
  value_from e is m le =
      ap (λ (o : Option Entry). option_map_or (worth_by (λ j. number (value_at known m j)) known) o Bad) is
      ∙ ap (worth (sigs_of known) (definition e.1.body) e.2) (given_same (λ j. number (value_at known m j)) (number_at values) (is_done values) (names known) e.2
      (ap (list_all (is_done values)) (sym (names_named known its i e are is)) ∙ all)
      (λ j d. (let c = done_is values j d in ap number (s.exact j c.0 c.1 m le) ∙ sym (ap (λ (o : Option (Option Const)). option_and_then (λ (o : Option Const). option_and_then number o) o) c.1))))

  pub settled : (e : Entry) (c : Const) → slice_get known i ≡ Some e → c ≡ worth_by (number_at values) known e → AreSettled known its (set values i (Some c))
  settled e c is worth =
      let more = done_set values i c opened in
      let inside = slice_get_within values i None (open_is values i opened) in
      let keep : (j : ℕ) → is_done values j ≡ true → is_done (set values i (Some c)) j ≡ true = λ j d. kept j d (got_other values i j (Some c)) in
      record {
        exact = λ j d at m le. exact j d at m (omega (arith, more, le)) (got_other values i j (Some c));
        closed = λ j d. closed j d (got_other values i j (Some c)) keep;
        straight = λ j d. straight j d (got_other values i j (Some c));
      }
    where
      new : Values
      new = set values i (Some c)

      got : slice_get new i ≡ Some (Some c)
      got = got_set values i (Some c) (slice_get_within values i None (open_is values i opened))

      kept : (j : ℕ) → is_done values j ≡ true → (j ≡ i) ⊎ (slice_get new j ≡ slice_get values j) → is_done new j ≡ true
      kept j d (inl at) = is_done_by new j c (ap (slice_get new) at ∙ got)
      kept j d (inr same) = ap (λ (o : Option (Option Const)). option_map_or is_some o false) same ∙ d

      exact : (j : ℕ) (d : Const) → slice_get new j ≡ Some (Some d) → (m : ℕ) → done values + 1 ≤ m → (j ≡ i) ⊎ (slice_get new j ≡ slice_get values j) → value_at known m j ≡ d
      exact j d at zero le which = absurd (omega (arith, le))
      exact j d at (suc m) le (inl same) =
          let both : Some (Some c) ≡ Some (Some d) = sym got ∙ ap (slice_get new) (sym same) ∙ at in
          let is_d : c ≡ d = cc in
          ap (value_at known (suc m)) same ∙ value_from e is m (omega (arith, le)) ∙ sym worth ∙ is_d
      exact j d at (suc m) le (inr same) = s.exact j d (sym same ∙ at) (suc m) (omega (arith, le))

      old_done : (j : ℕ) → is_done new j ≡ true → slice_get new j ≡ slice_get values j → is_done values j ≡ true
      old_done j d same = ap (λ (o : Option (Option Const)). option_map_or is_some o false) (sym same) ∙ d

      closed : (j : ℕ) → is_done new j ≡ true → (j ≡ i) ⊎ (slice_get new j ≡ slice_get values j) → ((k : ℕ) → is_done values k ≡ true → is_done new k ≡ true) → list_all (is_done new) (names_at its j) ≡ true
      closed j d (inl same) keep = all_weaker (is_done values) (is_done new) (names_at its j) keep (ap (λ k. list_all (is_done values) (names_at its k)) same ∙ all)
      closed j d (inr same) keep = all_weaker (is_done values) (is_done new) (names_at its j) keep (s.closed j (old_done j d same))

      straight : (j : ℕ) → is_done new j ≡ true → (j ≡ i) ⊎ (slice_get new j ≡ slice_get values j) → ¬ IsInCycle known j
      straight j d (inl same) h = no_cycle (subst (IsInCycle known) same h)
      straight j d (inr same) h = s.straight j (old_done j d same) h

pub slice_get_past_is : {A : Type 0} (xs : List A) (i : ℕ) → slice_get xs i ≡ None → length xs ≤ i
slice_get_past_is [] i e = omega arith
slice_get_past_is (x ∷ xs) zero e = absurd cc
slice_get_past_is (x ∷ xs) (suc i) e = omega (arith, slice_get_past_is xs i e)

-- the state of the code, one settled more
pub go_on : (known : List Entry) (its : Lists) (values new : Values) (i : ℕ) → AreNames known its → AreSettled known its values → is_ready its values i ≡ true → length values ≡ length known
    → ((e : Entry) → slice_get known i ≡ Some e → i < length values → new ≡ set values i (Some (worth_by (number_at values) known e)))
    → (done new ≡ done values + 1) × (length new ≡ length known) × AreSettled known its new
go_on known its values new i are s ready long is = by (slice_get known i) refl
  where
    opened : is_open values i ≡ true
    opened = (and_true (is_open values i) (list_all (is_done values) (names_at its i)) ready).0

    inside : i < length values
    inside = slice_get_within values i None (open_is values i opened)

    by : (o : Option Entry) → slice_get known i ≡ o → (done new ≡ done values + 1) × (length new ≡ length known) × AreSettled known its new
    by None none = absurd (let past = slice_get_past_is known i none in omega (arith, inside, long, past))
    by (Some e) at =
        (let c = worth_by (number_at values) known e in
        let same = is e at inside in
        (ap done same ∙ done_set values i c opened, ap length same ∙ length-set values i (Some c) ∙ long, subst (AreSettled known its) (sym same) (settled known its values are s i ready e c at refl)))

pub at_first : (known : List Entry) (its : Lists) → AreSettled known its (opens known)
at_first known its = record {
  exact = λ i c e. absurd (let bad : true ≡ false = sym (is_done_by (opens known) i c e) ∙ none_at known i in cc);
  closed = λ i d. absurd (let bad : true ≡ false = sym d ∙ none_at known i in cc);
  straight = λ i d. absurd (let bad : true ≡ false = sym d ∙ none_at known i in cc);
}
