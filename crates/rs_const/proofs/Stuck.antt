-- What is left when nothing more can be settled.
use Rattle.std.proofs.Common.{◌≡◌, ℕ, ◌⊎◌, inl, inr, zero, suc, Bool, true, false, ◌&&◌, ◌||◌, List, [], ◌∷◌, length, Option, Some, None, refl, sym, ap, ◌∙◌, arith, if◌then◌else◌}
use Rattle.std.specs.Prelude.{ℤ, is_none, is_some, slice_get}
use Rattle.std.specs.List.{list_all, list_any}
use Rattle.std.specs.Option.{option_map_or}
use Rattle.rs_tree.specs.declared.answers.Const.{Const}
use Rattle.rs_tree.specs.declared.answers.Const.TheVariants.{Bad, Cycle}
use Rattle.rs_tree.specs.declared.answers.Found.{Found}
use Rattle.rs_tree.specs.declared.place.Place.{Place}
use Rattle.rs_tree.specs.declared.index.Sig.{Sig}
use Rattle.rs_tree.specs.declared.tree.Path as path
use Rattle.rs_tree.specs.Plain.{Definition, Const as ConstItem, Func, definition}
use Rattle.rs_const.specs.Constants.{Entry, names, number, worth, worth_by, value_at, sigs_of, IsInCycle, IsValue}
use Rattle.rs_const.specs.State.{Values, Lists, is_done, names_at, AreSettled, AreNames, IsStuck}
use Rattle.rs_const.proofs.Given.{lacks, done_le, is_done_by}
use Rattle.rs_const.proofs.Settling.{names_named}

either : (a b : Bool) (c : Const) → b ≡ true → (if a || b then Bad else c) ≡ Bad
either true b c h = refl
either false true c h = refl
either false false c h = absurd cc

-- a constant one of whose paths has no value is Bad
lacking : (sigs : List (Place × Sig)) (d : Definition path.Path) (found : List Found) (given : List (Option ℤ)) → list_any is_none given ≡ true → worth sigs d found given ≡ Bad
lacking sigs (ConstItem typ e) found given lack = either _ _ _ lack
lacking sigs (Func inlined params gives stmts tail) found given lack = refl

module _ (known : List Entry) (its : Lists) (values : Values) (are : AreNames known its) (long : length values ≡ length known) (stuck : IsStuck its values) where
  -- not settled: open, or no constant's number
  undone : (i : ℕ) → is_done values i ≡ false → (slice_get values i ≡ Some None) ⊎ (slice_get known i ≡ None)
  undone i e = by (slice_get values i) refl
    where
      by : (o : Option (Option Const)) → slice_get values i ≡ o → (slice_get values i ≡ Some None) ⊎ (slice_get known i ≡ None)
      by None is = inr (past known values i long is)
        where
          past : (ks : List Entry) (vs : Values) (i : ℕ) → length vs ≡ length ks → slice_get vs i ≡ None → slice_get ks i ≡ None
          past [] vs i l h = refl
          past (k ∷ ks) [] i l h = absurd (omega (arith, l))
          past (k ∷ ks) (v ∷ vs) zero l h = absurd cc
          past (k ∷ ks) (v ∷ vs) (suc i) l h = past ks vs i (omega (arith, l)) h
      by (Some None) is = inl is
      by (Some (Some c)) is = absurd (let bad : true ≡ false = sym (is_done_by values i c is) ∙ e in cc)

  open_all : (i : ℕ) → slice_get values i ≡ Some None → list_all (is_done values) (names_at its i) ≡ false
  open_all i is = sym (ap (λ (o : Option (Option Const)). option_map_or is_none o false && list_all (is_done values) (names_at its i)) is) ∙ stuck i

  pub bad_at : (m i : ℕ) → is_done values i ≡ false → value_at known m i ≡ Bad
  bad_at zero i e = refl
  bad_at (suc m) i e = by (slice_get known i) refl (undone i e) (bad_at m)
    where
      by : (o : Option Entry) → slice_get known i ≡ o → (slice_get values i ≡ Some None) ⊎ (slice_get known i ≡ None) → ((j : ℕ) → is_done values j ≡ false → value_at known m j ≡ Bad) → option_map_or (worth_by (λ j. number (value_at known m j)) known) o Bad ≡ Bad
      by None is which rest = refl
      by (Some e) is (inr none) rest = absurd (let bad : Some e ≡ None = sym is ∙ none in cc)
      by (Some e) is (inl opened) rest =
          lacking (sigs_of known) (definition e.1.body) e.2 _
          (lacks (λ j. number (value_at known m j)) (is_done values) (names known) e.2 (ap (list_all (is_done values)) (sym (names_named known its i e are is)) ∙ open_all i opened)
          (λ j d. ap number (rest j d)))

  pub settled_value : AreSettled known its values → (i : ℕ) (c : Const) → slice_get values i ≡ Some (Some c) → IsValue known i c
  settled_value s i c is = record {
    cycle = λ h. absurd (s.straight i (is_done_by values i c is) h);
    value = λ h. sym (s.exact i c is (length known) (omega (arith, done_le values, long)));
  }

  pub cycle_value : (i : ℕ) → IsInCycle known i → IsValue known i Cycle
  cycle_value i h = record { cycle = λ k. refl; value = λ k. absurd (k h) }

  pub bad_value : (i : ℕ) → slice_get values i ≡ Some None → ¬ IsInCycle known i → IsValue known i Bad
  bad_value i is h = record { cycle = λ k. absurd (h k); value = λ k. sym (bad_at (length known) i (ap (λ (o : Option (Option Const)). option_map_or is_some o false) is)) }
