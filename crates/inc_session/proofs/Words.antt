-- Readings of own steps after one more step, and what a listing has.
use Rattle.std.proofs.Common.{◌≡◌, ◌==◌, ℕ, Bool, true, false, cond, List, [], ◌∷◌, refl, ap, ◌∙◌, eq-eqb, inl, inr}
use Rattle.std.specs.Prelude.{◌||◌, ◌&&◌, nat_eq, Option, Some, None}
use Rattle.std.specs.Cmp.Lexicographic.{pointwise}
use Rattle.inc_fs.specs.Lists.{IsIn}
use Rattle.inc_fs.specs.Lookups.{same_bytes}
use Rattle.inc_fs.specs.Paths.{Text}
use Rattle.inc_fs.specs.declared.op.Op.{Op}
use Rattle.inc_fs.specs.declared.op.Reply.{Reply}
use Rattle.inc_proto.specs.Events.{Steps}
use Rattle.inc_proto.specs.Views.{begun, same_text, is_here}
use Rattle.inc_session.specs.Naming.{lists}

-- a test of a number with itself
pub itself : {A : Type 0} (h : ℕ) (x y : A) → cond (h == h) x y ≡ x
itself h x y = ap (λ b. cond b x y) (eq-eqb h h refl)

pub got_some : (step : Op × Reply) (before : Option Steps) → (after : Steps) × (begun step before ≡ Some after)
got_some step None = ([], refl)
got_some step (Some steps) = (step ∷ steps, refl)

pub is_in : (names : List Text) (text : Text) → lists names text ≡ true → IsIn names text
is_in [] text h = absurd (cc)
is_in (x ∷ names) text h = go (is_in names text) (pointwise nat_eq x text) refl h
  where
    go : (lists names text ≡ true → IsIn names text) → (b : Bool) → pointwise nat_eq x text ≡ b → (b || lists names text) ≡ true → IsIn (x ∷ names) text
    go later true e h = inl (same_bytes x text e)
    go later false e h = inr (later h)

alike : (t : Text) → same_text t t ≡ true
alike [] = refl
alike (x ∷ xs) = ap (λ b. b && same_text xs xs) (eq-eqb x x refl) ∙ alike xs

-- a path is at itself
pub here : (krate entry : Text) → is_here krate entry krate entry ≡ true
here krate entry = ap (λ b. b && same_text entry entry) (alike krate) ∙ alike entry
