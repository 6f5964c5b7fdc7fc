-- Whether a path is the one of a session's directory.
use Rattle.std.specs.Prelude.{◌≡◌, ◌≢◌, ◌&&◌, Bool, true, false, [], ◌∷◌, refl}
use Rattle.std.proofs.Common.{sym, eq-eqb}
use Rattle.inc_fs.specs.Lookups.{same_bytes}
use Rattle.inc_fs.specs.State.{Text}
use Rattle.inc_proto.specs.Views.{same_text, is_here}
use Rattle.inc_laws.specs.Readings.Site.{At}

pub same_itself : (t : Text) → same_text t t ≡ true
same_itself [] = refl
same_itself (x ∷ t) = (λ i. eq-eqb x x refl i && same_itself t i)

pub here_itself : (k e : Text) → is_here k e k e ≡ true
here_itself k e = (λ i. same_itself k i && same_itself e i)

-- another path isn't the directory's
pub not_here : (krate entry k e : Text) → At krate entry ≢ At k e → is_here krate entry k e ≡ false
not_here krate entry k e off = go (same_text k krate) (same_text e entry) refl refl
  where
    go : (a b : Bool) → same_text k krate ≡ a → same_text e entry ≡ b → (same_text k krate && same_text e entry) ≡ false
    go true true p q = absurd (off (λ i. At (sym (same_bytes k krate p) i) (sym (same_bytes e entry q) i)))
    go true false p q = (λ i. p i && q i)
    go false b p q = (λ i. p i && q i)
