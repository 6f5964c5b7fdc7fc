-- A value that is taken, of which more is asked.
use Rattle.std.specs.Prelude.{◌≡◌, ℕ, List, ◌++◌, Option, Some, None}
use Rattle.std.proofs.Common.{refl, subst, sym, ap, ◌∙◌}
use Rattle.inc_wire.specs.Readings.{BeginsWithNone, IsReadAs, IsTaken, Takes}

-- of a value P holds, and Q too
pub record Both {X : Type 0} (P Q : X → Type 0) (x : X) : Type 0 where
  pub fits : P x
  pub more : Q x

pub narrow_none : {X : Type 0} (P Q : X → Type 0) (form : X → List ℕ) (before : List ℕ) → BeginsWithNone P form before → BeginsWithNone (Both P Q) form before
narrow_none P Q form before none = record { none = λ x after fits is. none.none x after fits.fits is }

pub narrow_kept : {X : Type 0} (P Q : X → Type 0) (form : X → List ℕ) (before after : List ℕ) (x : X) → IsTaken P form before after x → Q x → IsTaken (Both P Q) form before after x
narrow_kept P Q form before after x took q = record { fits = record { fits = took.fits; more = q }; front = took.front; only = λ y rest fits is. took.only y rest fits.fits is }

-- the bytes begin with this value alone, of which Q doesn't hold
pub narrow_refused : {X : Type 0} (P Q : X → Type 0) (form : X → List ℕ) (before after : List ℕ) (x : X) → IsTaken P form before after x → ¬ Q x → BeginsWithNone (Both P Q) form before
narrow_refused P Q form before after x took not = record {
  none = λ y rest fits is. not (subst Q (took.only y rest fits.fits is).value fits.more);
}

-- what a reader's answer says, once it is known which
pub took_none : {X : Type 0} (P : X → Type 0) (form : X → List ℕ) (before after : List ℕ) (o : Option X) → o ≡ None → Takes P form before after o → BeginsWithNone P form before
took_none {X = X} P form before after o none took = let Q : Option X → Type 0 = λ p. Takes P form before after p in subst Q none took

pub took_some : {X : Type 0} (P : X → Type 0) (form : X → List ℕ) (before after : List ℕ) (o : Option X) (x : X) → o ≡ Some x → Takes P form before after o → IsTaken P form before after x
took_some {X = X} P form before after o x some took = let Q : Option X → Type 0 = λ p. Takes P form before after p in subst Q some took

-- what was written is read back
pub read_back : {X : Type 0} (P : X → Type 0) (form : X → List ℕ) (x : X) (o : Option X) → P x → IsReadAs P form (form x) o → o ≡ Some x
read_back P form x None fits read = absurd (read.none x fits refl)
read_back P form x (Some y) fits read = ap Some (sym (read.only x fits refl))

-- A value of one type read as one of another, such as a struct as nested pairs.
module _ {X Y : Type 0} (P : X → Type 0) (form : X → List ℕ) (Q : Y → Type 0) (other : Y → List ℕ) (to : X → Y) (back : Y → X) where
  pub as_taken : ((x : X) → P x → Q (to x)) → ((y : Y) → Q y → P (back y)) → ((x : X) → form x ≡ other (to x)) → ((y : Y) → other y ≡ form (back y)) → ((y : Y) → to (back y) ≡ y)
      → (before after : List ℕ) (x : X) → IsTaken P form before after x → IsTaken Q other before after (to x)
  as_taken fits fits_back same same_back round before after x took = record {
    fits = fits x took.fits;
    front = took.front ∙ ap (λ bytes. bytes ++ after) (same x);
    only = λ y rest q is. (let seen = took.only (back y) rest (fits_back y q) (is ∙ ap (λ bytes. bytes ++ rest) (same_back y)) in
        record { value = sym (round y) ∙ ap to seen.value; rest = seen.rest });
  }

  pub as_none : ((y : Y) → Q y → P (back y)) → ((y : Y) → other y ≡ form (back y)) → (before : List ℕ) → BeginsWithNone P form before → BeginsWithNone Q other before
  as_none fits_back same_back before none = record { none = λ y rest q is. none.none (back y) rest (fits_back y q) (is ∙ ap (λ bytes. bytes ++ rest) (same_back y)) }
