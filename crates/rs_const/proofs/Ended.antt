-- What each value is in the end.
use Rattle.std.proofs.Common.{◌≡◌, ℕ, suc, Bool, List, [], ◌∷◌, length, Option, Some, None, refl, sym, ap, subst, ◌∙◌, arith, Vec, Global}
use Rattle.std.specs.Prelude.{slice_get, slice_index_or, is_some}
use Rattle.std.specs.Option.{option_map_or}
use Rattle.std.proofs.lemmas.List.{length-map}
use Rattle.std.proofs.lemmas.Option.{slice_get_within}
use Rattle.rs_tree.specs.declared.answers.Const.{Const}
use Rattle.rs_reach.specs.Search.{Path}
use Rattle.rs_tree.specs.declared.answers.Const.TheVariants.{Bad}
use Rattle.rs_reach.specs.Reached.{IsReachedFrom}
use Rattle.rs_reach.specs.Cycles.{AreCyclic}
use Rattle.rs_reach.proofs.Round.{cyclic_at}
use Rattle.rs_const.specs.Constants.{Entry, names, named_by, IsInCycle, IsValue, AreValues}
use Rattle.rs_const.specs.State.{Values, Lists, AreSettled, AreNames, IsStuck, IsEnd, AreEnds, end_of}
use Rattle.rs_const.proofs.Lists.{same_marks}
use Rattle.rs_const.proofs.Settling.{its_names, slice_get_past_is}
use Rattle.rs_const.proofs.Stuck.{bad_at, settled_value}

-- by marks for cycles each has its end
pub end_is : (its : Lists) (marks : List Bool) → AreCyclic its marks → (i : ℕ) (o : Option Const) (c : Const) → c ≡ end_of (slice_index_or marks i Bool.false) o → IsEnd its i o c
end_is its marks are i (Some d) c e = record { value = λ d' is. (let same : d ≡ d' = cc in e ∙ same); cycle = λ none. absurd cc; bad = λ none. absurd cc }
end_is its marks are i None c e = record {
  value = λ d is. absurd cc;
  cycle = λ none r. e ∙ ap (λ b. end_of b None) ((cyclic_at its marks are i).1 r);
  bad = λ none not. e ∙ by (slice_index_or marks i Bool.false) refl not;
}
  where
    by : (b : Bool) → slice_index_or marks i Bool.false ≡ b → ¬ IsReachedFrom its i i → end_of b None ≡ Bad
    by Bool.true is not = absurd (not ((cyclic_at its marks are i).0 is))
    by Bool.false is not = refl

module _ (known : List Entry) (its : Lists) (are : AreNames known its) where
  long : length known ≡ length its
  long = sym (length-map known (λ (e : Entry). named_by (names known) e.2)) ∙ ap length (sym are) ∙ length-map its (λ (v : Vec ℕ Global). v.items)

  -- a cycle by the lists is one by what expressions name
  pub same_cycle : (i : ℕ) → IsInCycle known i ≡ IsReachedFrom its i i
  same_cycle i = λ j. (n : ℕ) × Path (same_marks Bool.true known its long j) (λ k. its_names known its k are j) (i ∷ []) (suc n) i

  pub ended : (values : Values) (cs : List Const) → length values ≡ length known → AreSettled known its values → IsStuck its values → AreEnds its values cs → AreValues known cs
  ended values cs all s stuck ends = record { all = ends.all ∙ all; each = λ i c is. by i c is (slice_get values i) refl }
    where
      by : (i : ℕ) (c : Const) → slice_get cs i ≡ Some c → (o : Option (Option Const)) → slice_get values i ≡ o → IsValue known i c
      by i c is None at = absurd (let past = slice_get_past_is values i at in let inside = slice_get_within cs i c is in omega (arith, past, inside, ends.all))
      by i c is (Some (Some d)) at = subst (IsValue known i) (sym ((ends.each i c (Some d) is at).value d refl)) (settled_value known its values are all stuck s i d at)
      by i c is (Some None) at =
          (let e = ends.each i c None is at in
          record {
            cycle = λ h. e.cycle refl (subst (λ (A : Type 0). A) (same_cycle i) h);
            value = λ h. e.bad refl (λ r. h (subst (λ (A : Type 0). A) (sym (same_cycle i)) r)) ∙ sym (bad_at known its values are all stuck (length known) i (ap (λ (o : Option (Option Const)). option_map_or is_some o Bool.false) at));
          })
