-- The readings of these forms, each of which has an answer.
use Rattle.std.proofs.Common.{◌≡◌, ◌⊎◌, ◌==◌, ℕ, zero, suc, ◌^◌, ◌<◌, ◌≤◌, Bool, true, false, List, inl, inr, refl, sym, ap, ◌∙◌, arith, append-nil}
use Rattle.std.specs.Prelude.{FitsSigned}
use Rattle.std.specs.Int.{cast_signed, cast_unsigned, w64}
use Rattle.std.proofs.Math.Facts.{Fits-of_lt, of_z-to_z, sfits_to_z}
use Rattle.inc_wire.specs.Fits.{Always}
use Rattle.inc_wire.specs.Forms.{flag_of, number_form}
use Rattle.inc_wire.specs.Fronts.{number_fronts, text_fronts}
use Rattle.rs_forms.specs.Fits.{FitsPlace}
use Rattle.rs_forms.specs.Forms.{place_form}
use Rattle.rs_forms.proofs.Fronts.{place_fronts}
use Rattle.rs_forms.proofs.Sought.{Seeks, le_decided, list_seeks, made_seeks, marked_seeks, narrow_seeks, number_is, number_seeks, pair_seeks, read_of, read_one, text_seeks}
use Rattle.rs_tree.specs.declared.answers.Diag.{Diag}
use Rattle.rs_tree.specs.declared.place.Place.{Place}
use Rattle.rs_answers.specs.Answered.{AnswersAreAnswered, AnswersHaveOneAnswer}
use Rattle.rs_answers.specs.Fits.{FitsConst, FitsDiag, FitsDiags, FitsPlaces}
use Rattle.rs_answers.specs.Forms.{const_form, diag_form, diags_form, places_form}
use Rattle.rs_answers.proofs.Fronts.{IsWhy, Part, PartFits, TypedFits, const_fronts, const_of, diag_fronts, diags_fronts, number_small, number_value, part_form, part_of, parts_fit, parts_form, places_fronts, truth_small, truth_value, typed_form, why_form, why_small}
use Rattle.rs_answers.proofs.Sums.{either_seeks}

number_fits : (v : ℕ) → v < 256 ^ 8 → FitsSigned w64 (cast_signed w64 v)
number_fits v small = let below : v < 2 ^ 64 = omega (arith, small) in sfits_to_z {w = w64} (Fits-of_lt {w = w64} below)

number_back : (v : ℕ) → v < 256 ^ 8 → number_form 8 v ≡ number_value (cast_signed w64 v)
number_back v small = let below : v < 2 ^ 64 = omega (arith, small) in ap (number_form 8) (sym (of_z-to_z {w = w64} (Fits-of_lt {w = w64} below)))

number_seeks_of : Seeks (FitsSigned w64) number_value
number_seeks_of = made_seeks (cast_signed w64) (cast_unsigned w64) number_fits number_small number_back (λ z. refl) (number_seeks 8)

abbrev IsTruth : ℕ → Type 0
IsTruth v = (v ≡ 0) ⊎ (v ≡ 1)

truth_back : (v : ℕ) → IsTruth v → number_form 8 v ≡ truth_value (v == 1)
truth_back v (inl none) = ap (number_form 8) none ∙ ap (λ v. truth_value (v == 1)) (sym none)
truth_back v (inr one) = ap (number_form 8) one ∙ ap (λ v. truth_value (v == 1)) (sym one)

truth_fits : (b : Bool) → IsTruth (flag_of b)
truth_fits true = inr refl
truth_fits false = inl refl

truth_decided : (v : ℕ) → (v ≡ 0) ⊎ (v ≡ 0 → ⊥) → (v ≡ 1) ⊎ (v ≡ 1 → ⊥) → IsTruth v ⊎ (IsTruth v → ⊥)
truth_decided v (inl none) one = inl (inl none)
truth_decided v (inr other) (inl one) = inl (inr one)
truth_decided v (inr other) (inr more) = inr (λ is. elim is [ inl none ↦ other none | inr one ↦ more one ])

truth_seeks : Seeks (Always {X = Bool}) truth_value
truth_seeks = made_seeks (λ v. v == 1) flag_of (λ v fits. tt) (λ b fits. (truth_small b, truth_fits b)) (λ v fits. truth_back v fits.1) (λ b. refl)
    (narrow_seeks {Q = IsTruth} (number_fronts 8) (λ v. truth_decided v (number_is 0 v) (number_is 1 v)) (number_seeks 8))

typed_seeks : Seeks TypedFits typed_form
typed_seeks = either_seeks (marked_seeks 1 (omega arith) number_seeks_of) (marked_seeks 2 (omega arith) truth_seeks)

why_decided : (v : ℕ) → (1 ≤ v) ⊎ (1 ≤ v → ⊥) → (v ≤ 4) ⊎ (v ≤ 4 → ⊥) → IsWhy v ⊎ (IsWhy v → ⊥)
why_decided v (inl least) (inl most) = inl (least, most)
why_decided v (inl least) (inr past) = inr (λ is. past is.1)
why_decided v (inr none) most = inr (λ is. none is.0)

why_seeks : Seeks IsWhy why_form
why_seeks = made_seeks (λ v. v) (λ v. v) (λ v fits. fits.1) (λ v fits. (why_small v fits, fits)) (λ v fits. sym (append-nil (number_form 1 v))) (λ v. append-nil (number_form 1 v))
    (narrow_seeks {Q = IsWhy} (number_fronts 1) (λ v. why_decided v (le_decided 1 v) (le_decided v 4)) (number_seeks 1))

part_seeks : Seeks PartFits part_form
part_seeks = either_seeks (marked_seeks 0 (omega arith) typed_seeks) why_seeks

consts_fit : (p : Part) → PartFits p → FitsConst (const_of p)
consts_fit (inl (inl z)) fits = fits
consts_fit (inl (inr b)) fits = tt
consts_fit (inr zero) fits = absurd (omega (arith, fits.0))
consts_fit (inr (suc zero)) fits = tt
consts_fit (inr (suc (suc zero))) fits = tt
consts_fit (inr (suc (suc (suc zero)))) fits = tt
consts_fit (inr (suc (suc (suc (suc n))))) fits = tt

whys_form : (n : ℕ) → IsWhy n → why_form n ≡ const_form (const_of (inr n))
whys_form zero fits = absurd (omega (arith, fits.0))
whys_form (suc zero) fits = refl
whys_form (suc (suc zero)) fits = refl
whys_form (suc (suc (suc zero))) fits = refl
whys_form (suc (suc (suc (suc zero)))) fits = refl
whys_form (suc (suc (suc (suc (suc n))))) fits = absurd (omega (arith, fits.1))

consts_form : (p : Part) → PartFits p → part_form p ≡ const_form (const_of p)
consts_form (inl (inl z)) fits = refl
consts_form (inl (inr b)) fits = refl
consts_form (inr n) fits = whys_form n fits

const_seeks : Seeks FitsConst const_form
const_seeks = made_seeks const_of part_of consts_fit parts_fit consts_form parts_form part_seeks

diag_seeks : Seeks FitsDiag diag_form
diag_seeks = made_seeks
    (λ (p : ℕ × (ℕ × (ℕ × List ℕ))). record { at = record { line = p.0; column = p.1.0 }; code = p.1.1.0; text = p.1.1.1 }) (λ (d : Diag). (d.at.line, (d.at.column, (d.code, d.text))))
    (λ p fits. record { line = fits.0; column = fits.1.0; code = fits.1.1.0; text = fits.1.1.1 }) (λ d fits. (fits.line, (fits.column, (fits.code, fits.text)))) (λ p fits. refl) (λ d. refl)
    (pair_seeks (number_fronts 4) (number_seeks 4) (pair_seeks (number_fronts 4) (number_seeks 4) (pair_seeks (number_fronts 2) (number_seeks 2) text_seeks)))

place_seeks : Seeks FitsPlace place_form
place_seeks = made_seeks
    (λ (p : List ℕ × List ℕ). record { «module» = p.0; name = p.1 }) (λ (x : Place). (x.module, x.name))
    (λ p fits. record { «module» = fits.0; name = fits.1 }) (λ x fits. (fits.module, fits.name)) (λ p fits. refl) (λ x. refl)
    (pair_seeks text_fronts text_seeks text_seeks)

pub answers_are_answered : AnswersAreAnswered
answers_are_answered = record {
  constant = read_of const_fronts const_seeks;
  diags = read_of diags_fronts (list_seeks diag_fronts diag_seeks);
  places = read_of places_fronts (list_seeks place_fronts place_seeks);
}

pub answers_have_one_answer : AnswersHaveOneAnswer
answers_have_one_answer = record {
  constant = read_one FitsConst const_form;
  diags = read_one FitsDiags diags_form;
  places = read_one FitsPlaces places_form;
}
