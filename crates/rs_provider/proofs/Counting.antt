-- How often labels have places, one instruction after the other.
use Rattle.std.proofs.Common.{◌≡◌, ℕ, ◌+◌, ◌<◌, ◌≤◌, true, false, if◌then◌else◌, List, [], ◌∷◌, length, get_or, drop, refl, sym, ap, ◌∙◌, zero-add, arith}
use Rattle.std.proofs.lemmas.List.{at_drop_more}
use Rattle.std.specs.BTreeMap.{BTreeMap}
use Rattle.rs_tree.specs.Labels.{count_of_places, places}
use Rattle.rs_tree.specs.declared.ir.Instr.{Instr}
use Rattle.rs_tree.specs.declared.ir.Instr.TheVariants as i
use Rattle.rs_provider.specs.Counts.{AreCounted}

-- at most as often as there are instructions
pub count-le : (label : ℕ) (code : List Instr) → count_of_places label code ≤ length code
count-le label [] = omega arith
count-le label (x ∷ xs) = elim (places label x) as (λ b. (if b then 1 else 0) + count_of_places label xs ≤ length (x ∷ xs)) [ true ↦ omega (arith, count-le label xs) | false ↦ omega (arith, count-le label xs) ]

no_place : (label : ℕ) (x : Instr) → ((other : ℕ) → x ≡ i.Label other → ⊥) → places label x ≡ false
no_place label (i.Push value) h = refl
no_place label (i.Load slot) h = refl
no_place label (i.Store slot) h = refl
no_place label (i.Plain code) h = refl
no_place label (i.Jump code other) h = refl
no_place label (i.Label other) h = absurd (h other refl)
no_place label (i.Call inline place) h = refl

-- an instruction that is no label's place
pub other_counted : (counts : BTreeMap ℕ ℕ) (code : List Instr) (k : ℕ) (x : Instr) → k < length code → x ≡ get_or code k x → ((label : ℕ) → x ≡ i.Label label → ⊥)
    → AreCounted counts (drop (k + 1) code) → AreCounted counts (drop k code)
other_counted counts code k x l at h has = record {
  each = λ q.
      has.each q ∙ sym (
      at_drop_more (count_of_places q) code k x l
      ∙ ap (λ y. count_of_places q (y ∷ drop (k + 1) code)) (sym at)
      ∙ ap (λ b. (if b then 1 else 0) + count_of_places q (drop (k + 1) code)) (no_place q x h)
      ∙ zero-add (count_of_places q (drop (k + 1) code)));
}
