-- What is made ready gives the search and the members that are stated.
use Rattle.std.proofs.Common.{◌≡◌, ℕ, ◌+◌, Bool, false, not, List, ◌++◌, length, Option, Vec, Global, subst, ap, ◌∙◌}
use Rattle.std.specs.Prelude.{filter, slice_index_or}
use Rattle.rs_tree.specs.declared.place.Place.{Place}
use Rattle.rs_tree.specs.declared.index.IndexItem.{IndexItem}
use Rattle.rs_reach.specs.Search.{start, walk}
use Rattle.rs_reach.specs.Places.{IsLeft}
use Rattle.rs_reach.specs.Dead.{numbers_where}
use Rattle.rs_units.specs.Units.{is_own}
use Rattle.rs_units.specs.Members.{is_among, is_inline, member_numbers, search_of}
use Rattle.rs_units.specs.Ready.{kept, IsReady}
use Rattle.rs_units.proofs.Numbers.{not_left}

module _ (unit : List ℕ) (items : List IndexItem) (calls : List (Place × List Place)) (known : List (Option (Vec ℕ Global))) (marks : List Bool) (inlines own : List ℕ) (ready : IsReady items calls known marks inlines) (owns : own ≡ numbers_where (is_own unit) 0 items) where
  -- the search by what is kept
  pub searched : (its : List (Option (Vec ℕ Global))) (may : List Bool) (roots : List ℕ) → its ≡ known → may ≡ marks → roots ≡ own → walk may (kept its) (start roots) (length may + 1) ≡ search_of unit items calls
  searched its may roots same_its same_may same_roots =
      (λ j. walk (same_may j) (kept (same_its j)) (start (same_roots j)) (length (same_may j) + 1))
      ∙ (λ j. walk (ready.marked j) (λ i. ready.asked i j) (start (owns j)) (length (ready.marked j) + 1))

  -- own ones, and inline ones that aren't left
  pub numbered : (left may : List Bool) (found to : List ℕ) → IsLeft may left found → may ≡ marks → found ≡ (search_of unit items calls).found → to ≡ own ++ filter (λ i. not (slice_index_or left i false)) inlines → to ≡ member_numbers unit items calls
  numbered left may found to is same finds gives =
      gives
      ∙ (λ j. owns j ++ filter (λ i. not (slice_index_or left i false)) (ready.numbered j))
      ∙ ap (λ (xs : List ℕ). numbers_where (is_own unit) 0 items ++ xs)
      (not_left items left found (subst (λ (m : List Bool). IsLeft m left found) (same ∙ ready.marked) is)
      ∙ ap (λ (f : List ℕ). filter (is_among f) (numbers_where is_inline 0 items)) finds)
