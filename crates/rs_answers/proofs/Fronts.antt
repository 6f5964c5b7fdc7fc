-- Constants' values and diagnostics are seen from the bytes that they begin.
use Rattle.std.proofs.Common.{◌≡◌, ◌⊎◌, ℕ, zero, suc, ℤ, ◌^◌, ◌<◌, ◌≤◌, Bool, true, false, List, [], ◌++◌, inl, inr, refl, sym, ap, ◌∙◌, arith, append_assoc}
use Rattle.std.specs.Prelude.{FitsSigned}
use Rattle.std.specs.Int.{cast_signed, cast_unsigned, w64}
use Rattle.std.proofs.Math.Facts.{Fits-lt-pow, Fits-of_z, to_z-of_z}
use Rattle.inc_wire.specs.Fits.{Always}
use Rattle.inc_wire.specs.Forms.{flag_of, number_form}
use Rattle.inc_wire.specs.FormLaws.{same_number_front}
use Rattle.inc_wire.specs.Fronts.{HasFronts, list_fronts, made_fronts, marked_fronts, number_fronts, pair_fronts, text_fronts}
use Rattle.inc_wire.specs.Readings.{IsSeen}
use Rattle.rs_forms.proofs.Fronts.{place_fronts}
use Rattle.rs_tree.specs.declared.answers.Const.{Const}
use Rattle.rs_tree.specs.declared.answers.Const.TheVariants as k
use Rattle.rs_tree.specs.declared.answers.Diag.{Diag}
use Rattle.rs_answers.specs.Fits.{FitsConst, FitsDiag, FitsDiags, FitsPlaces}
use Rattle.rs_answers.specs.Forms.{const_form, diag_form, diags_form, places_form}
use Rattle.rs_answers.proofs.Sums.{AreApart, EitherFits, either_form, either_fronts}

-- numbers and truth values in eight bytes

abbrev pub number_value : ℤ → List ℕ
number_value z = number_form 8 (cast_unsigned w64 z)

abbrev pub truth_value : Bool → List ℕ
truth_value b = number_form 8 (flag_of b)

pub number_small : (z : ℤ) → FitsSigned w64 z → cast_unsigned w64 z < 256 ^ 8
number_small z f = let below : cast_unsigned w64 z < 2 ^ 64 = Fits-lt-pow {w = w64} (Fits-of_z f) in omega (arith, below)

pub truth_small : (b : Bool) → flag_of b < 256 ^ 8
truth_small true = omega arith
truth_small false = omega arith

number_seen : (a b : ℤ) (r s : List ℕ) → FitsSigned w64 a → FitsSigned w64 b → number_value a ++ r ≡ number_value b ++ s → IsSeen a b r s
number_seen a b r s fa fb same =
    let parts = same_number_front 8 (cast_unsigned w64 a) (cast_unsigned w64 b) r s (number_small a fa) (number_small b fb) same in
    record { value = sym (to_z-of_z fa) ∙ ap (cast_signed w64) parts.0 ∙ to_z-of_z fb; rest = parts.1 }

pub number_fronts_of : HasFronts (FitsSigned w64) number_value
number_fronts_of = record { seen = number_seen }

truths_same : (a b : Bool) → flag_of a ≡ flag_of b → a ≡ b
truths_same true true e = refl
truths_same false false e = refl
truths_same true false e = absurd (cc)
truths_same false true e = absurd (cc)

truth_seen : (a b : Bool) (r s : List ℕ) → Always a → Always b → truth_value a ++ r ≡ truth_value b ++ s → IsSeen a b r s
truth_seen a b r s fa fb same =
    let parts = same_number_front 8 (flag_of a) (flag_of b) r s (truth_small a) (truth_small b) same in
    record { value = truths_same a b parts.0; rest = parts.1 }

pub truth_fronts : HasFronts (Always {X = Bool}) truth_value
truth_fronts = record { seen = truth_seen }

-- a value, with the byte of its type

abbrev pub typed : {X : Type 0} → ℕ → (X → List ℕ) → X → List ℕ
typed mark form x = number_form 1 mark ++ form x

-- forms that begin with different bytes
pub marks_apart : {X Y : Type 0} (P : X → Type 0) (form : X → List ℕ) (Q : Y → Type 0) (other : Y → List ℕ) (m n : ℕ) → m < 256 ^ 1 → n < 256 ^ 1 → (m ≡ n → ⊥) → (x : X) (y : Y) (r s : List ℕ) → (number_form 1 m ++ form x) ++ r ≡ (number_form 1 n ++ other y) ++ s → ⊥
marks_apart P form Q other m n sm sn differ x y r s same =
    differ (same_number_front 1 m n (form x ++ r) (other y ++ s) sm sn (sym (append_assoc (number_form 1 m) (form x) r) ∙ same ∙ append_assoc (number_form 1 n) (other y) s)).0

abbrev pub Typed : Type 0
Typed = ℤ ⊎ Bool

abbrev pub TypedFits : Typed → Type 0
TypedFits = EitherFits (FitsSigned w64) (Always {X = Bool})

abbrev pub typed_form : Typed → List ℕ
typed_form = either_form (typed 1 number_value) (typed 2 truth_value)

pub typed_fronts : HasFronts TypedFits typed_form
typed_fronts =
    either_fronts (marked_fronts (number_form 1 1) number_fronts_of) (marked_fronts (number_form 1 2) truth_fronts)
    (λ x y r s fx fy same. marks_apart (FitsSigned w64) number_value (Always {X = Bool}) truth_value 1 2 (omega arith) (omega arith) (λ e. absurd (cc)) x y r s same)

-- why there is none

abbrev pub IsWhy : ℕ → Type 0
IsWhy n = (1 ≤ n) × (n ≤ 4)

abbrev pub why_form : ℕ → List ℕ
why_form n = number_form 1 n ++ []

pub why_small : (n : ℕ) → IsWhy n → n < 256 ^ 1
why_small n is = omega (arith, is.1)

why_fronts : HasFronts IsWhy why_form
why_fronts = record { seen = why_seen }
  where
    why_seen : (a b : ℕ) (r s : List ℕ) → IsWhy a → IsWhy b → why_form a ++ r ≡ why_form b ++ s → IsSeen a b r s
    why_seen a b r s fa fb same =
        let parts = same_number_front 1 a b r s (why_small a fa) (why_small b fb) (sym (append_assoc (number_form 1 a) [] r) ∙ same ∙ append_assoc (number_form 1 b) [] s) in
        record { value = parts.0; rest = parts.1 }

-- constants

abbrev pub Part : Type 0
Part = Typed ⊎ ℕ

abbrev pub PartFits : Part → Type 0
PartFits = EitherFits TypedFits IsWhy

abbrev pub part_form : Part → List ℕ
part_form = either_form (typed 0 typed_form) why_form

none_apart : AreApart TypedFits (typed 0 typed_form) IsWhy why_form
none_apart x n r s fx is same =
    let parts = same_number_front 1 0 n (typed_form x ++ r) s (omega arith) (why_small n is) (sym (append_assoc (number_form 1 0) (typed_form x) r) ∙ same ∙ append_assoc (number_form 1 n) [] s) in
    omega (arith, parts.0, is.0)

abbrev pub why_of : ℕ → Const
why_of zero = k.Bad
why_of (suc zero) = k.Cycle
why_of (suc (suc zero)) = k.Overflow
why_of (suc (suc (suc zero))) = k.DivZero
why_of (suc (suc (suc (suc n)))) = k.Bad

abbrev pub const_of : Part → Const
const_of (inl (inl z)) = k.Int z
const_of (inl (inr b)) = k.Bool b
const_of (inr n) = why_of n

abbrev pub part_of : Const → Part
part_of (k.Int z) = inl (inl z)
part_of (k.Bool b) = inl (inr b)
part_of k.Cycle = inr 1
part_of k.Overflow = inr 2
part_of k.DivZero = inr 3
part_of k.Bad = inr 4

pub parts_fit : (c : Const) → FitsConst c → PartFits (part_of c)
parts_fit (k.Int z) fits = fits
parts_fit (k.Bool b) fits = tt
parts_fit k.Cycle fits = (omega arith, omega arith)
parts_fit k.Overflow fits = (omega arith, omega arith)
parts_fit k.DivZero fits = (omega arith, omega arith)
parts_fit k.Bad fits = (omega arith, omega arith)

pub parts_form : (c : Const) → const_form c ≡ part_form (part_of c)
parts_form (k.Int z) = refl
parts_form (k.Bool b) = refl
parts_form k.Cycle = refl
parts_form k.Overflow = refl
parts_form k.DivZero = refl
parts_form k.Bad = refl

parts_round : (c : Const) → const_of (part_of c) ≡ c
parts_round (k.Int z) = refl
parts_round (k.Bool b) = refl
parts_round k.Cycle = refl
parts_round k.Overflow = refl
parts_round k.DivZero = refl
parts_round k.Bad = refl

pub part_fronts : HasFronts PartFits part_form
part_fronts = either_fronts (marked_fronts (number_form 1 0) typed_fronts) why_fronts none_apart

pub const_fronts : HasFronts FitsConst const_form
const_fronts = made_fronts const_of part_of part_fronts parts_fit parts_form parts_round

-- diagnostics and places

pub diag_fronts : HasFronts FitsDiag diag_form
diag_fronts = made_fronts
    (λ (p : ℕ × (ℕ × (ℕ × List ℕ))). record { at = record { line = p.0; column = p.1.0 }; code = p.1.1.0; text = p.1.1.1 }) (λ (d : Diag). (d.at.line, (d.at.column, (d.code, d.text))))
    (pair_fronts (number_fronts 4) (pair_fronts (number_fronts 4) (pair_fronts (number_fronts 2) text_fronts)))
    (λ d fits. (fits.line, (fits.column, (fits.code, fits.text)))) (λ d. refl) (λ d. refl)

pub diags_fronts : HasFronts FitsDiags diags_form
diags_fronts = list_fronts diag_fronts

pub places_fronts : HasFronts FitsPlaces places_form
places_fronts = list_fronts place_fronts
