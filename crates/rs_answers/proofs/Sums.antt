-- Forms of one of two types.
use Rattle.std.proofs.Common.{◌≡◌, ◌⊎◌, ℕ, List, ◌++◌, inl, inr, sym, ap}
use Rattle.inc_wire.specs.Readings.{IsSeen}
use Rattle.inc_wire.specs.Fronts.{HasFronts}
use Rattle.rs_forms.proofs.Sought.{Seeks, Sought}

abbrev pub either_form : {X Y : Type 0} → (X → List ℕ) → (Y → List ℕ) → X ⊎ Y → List ℕ
either_form form other (inl x) = form x
either_form form other (inr y) = other y

abbrev pub EitherFits : {X Y : Type 0} → (X → Type 0) → (Y → Type 0) → X ⊎ Y → Type 0
EitherFits P Q (inl x) = P x
EitherFits P Q (inr y) = Q y

-- no value of the one begins as one of the other
abbrev pub AreApart : {X Y : Type 0} → (X → Type 0) → (X → List ℕ) → (Y → Type 0) → (Y → List ℕ) → Type 0
AreApart {X} {Y} P form Q other = (x : X) (y : Y) (r s : List ℕ) → P x → Q y → form x ++ r ≡ other y ++ s → ⊥

pub either_fronts : {X Y : Type 0} {P : X → Type 0} {form : X → List ℕ} {Q : Y → Type 0} {other : Y → List ℕ} → HasFronts P form → HasFronts Q other → AreApart P form Q other → HasFronts (EitherFits P Q) (either_form form other)
either_fronts {X} {Y} {P} {form} {Q} {other} firsts seconds apart = record { seen = both }
  where
    both : (x y : X ⊎ Y) (r s : List ℕ) → EitherFits P Q x → EitherFits P Q y → either_form form other x ++ r ≡ either_form form other y ++ s → IsSeen x y r s
    both (inl x) (inl y) r s fx fy same = let seen = firsts.seen x y r s fx fy same in record { value = ap inl seen.value; rest = seen.rest }
    both (inr x) (inr y) r s fx fy same = let seen = seconds.seen x y r s fx fy same in record { value = ap inr seen.value; rest = seen.rest }
    both (inl x) (inr y) r s fx fy same = absurd (apart x y r s fx fy same)
    both (inr x) (inl y) r s fx fy same = absurd (apart y x s r fy fx (sym same))

pub either_seeks : {X Y : Type 0} {P : X → Type 0} {form : X → List ℕ} {Q : Y → Type 0} {other : Y → List ℕ} → Seeks P form → Seeks Q other → Seeks (EitherFits P Q) (either_form form other)
either_seeks {X} {Y} {P} {form} {Q} {other} firsts seconds = record { seek = λ before. go before (firsts.seek before) (seconds.seek before) }
  where
    neither : (before : List ℕ) → ((x : X) (after : List ℕ) → P x → before ≡ form x ++ after → ⊥) → ((y : Y) (after : List ℕ) → Q y → before ≡ other y ++ after → ⊥) → (z : X ⊎ Y) (after : List ℕ) → EitherFits P Q z → before ≡ either_form form other z ++ after → ⊥
    neither before one two (inl x) after fits is = one x after fits is
    neither before one two (inr y) after fits is = two y after fits is

    go : (before : List ℕ) → Sought P form before → Sought Q other before → Sought (EitherFits P Q) (either_form form other) before
    go before (inl one) two = inl (inl one.0, one.1, one.2, one.3)
    go before (inr none) (inl two) = inl (inr two.0, two.1, two.2, two.3)
    go before (inr none) (inr nor) = inr (neither before none nor)
