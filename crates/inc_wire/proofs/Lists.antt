-- Lists that are gone through element by element.
use Rattle.std.proofs.Common.{◌≡◌, ℕ, ◌+◌, ◌<◌, ◌≤◌, List, [], ◌∷◌, ◌++◌, length, take, ap, subst, ◌^◌, ◌∙◌, append_assoc}
use Rattle.std.proofs.lemmas.List.{take_all}
use Rattle.std.specs.List.{flat_map}
use Rattle.inc_wire.specs.Fits.{Each, FitsList}
use Rattle.inc_wire.specs.Forms.{list_form, number_form}

pub more_fit : {X : Type 0} (P : X → Type 0) (xs : List X) (x : X) → Each P xs → P x → Each P (xs ++ x ∷ [])
more_fit P [] x fit fx = (fx, tt)
more_fit P (y ∷ xs) x fit fx = (fit.0, more_fit P xs x fit.1 fx)

pub all_fit : {X : Type 0} (P : X → Type 0) (xs : List X) (i : ℕ) → length xs < 2 ^ 32 → Each P (take i xs) → length xs ≤ i → FitsList P xs
all_fit P xs i few each all = record { few = few; each = subst (Each P) (take_all i xs all) each }

pub list_written : {X : Type 0} (form : X → List ℕ) (before counted after : List ℕ) (xs : List X) (i : ℕ) → counted ≡ before ++ number_form 4 (length xs) → after ≡ counted ++ flat_map form (take i xs) → length xs ≤ i → after ≡ before ++ list_form form xs
unfolding list_form
list_written form before counted after xs i count each all =
    each
    ∙ ap (λ front. front ++ flat_map form (take i xs)) count
    ∙ ap (λ items. (before ++ number_form 4 (length xs)) ++ flat_map form items) (take_all i xs all)
    ∙ append_assoc before (number_form 4 (length xs)) (flat_map form xs)
