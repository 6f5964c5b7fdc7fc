-- A draw keeps the laws.
use Rattle.std.proofs.Common.{ap, ◌≡◌, ℕ, List, ◌∷◌, refl, sym, ◌∙◌, subst, inl, inr, ◌⊎◌}
use Rattle.inc_fs.specs.State.{IsIn}
use Rattle.inc_names.specs.declared.session.SessionName.{SessionName}
use Rattle.inc_laws.specs.Parts.{DrawnOnce}
use Rattle.inc_fs.specs.Points.{with_at, each}

module _ (names : ℕ → List SessionName) (drawn : List (ℕ × ℕ)) (l : DrawnOnce names drawn) (who : ℕ) (p : SessionName) (fresh : ¬ IsIn drawn (p.moment, p.random)) where
  new : ℕ → List SessionName
  new = with_at names who (p ∷ names who)

  was : (v : ℕ) (n : SessionName) → IsIn (with_at names who (p ∷ names who) v) n → IsIn (names v) n ⊎ ((who ≡ v) × (p ≡ n))
  was v n = each names who (p ∷ names who) (λ v ns. IsIn ns n → IsIn (names v) n ⊎ ((who ≡ v) × (p ≡ n)))
      (λ v _ h. inl h)
      (λ h. elim h [ inl is ↦ inr (refl, is) | inr h ↦ inl h ]) v

  pub drawn_once : DrawnOnce (with_at names who (p ∷ names who)) ((p.moment, p.random) ∷ drawn)
  drawn_once = record {
    known = λ v n h. elim (was v n h) [
      | inl h ↦ inr (l.known v n h)
      | inr is ↦ inl (ap (λ (n : SessionName). (n.moment, n.random)) is.1)
    ];
    once = λ v w n g h. both v w n (was v n g) (was w n h);
  }
    where
      both : (v w : ℕ) (n : SessionName) → IsIn (names v) n ⊎ ((who ≡ v) × (p ≡ n)) → IsIn (names w) n ⊎ ((who ≡ w) × (p ≡ n)) → v ≡ w
      both v w n (inl g) (inl h) = l.once v w n g h
      both v w n (inl g) (inr h) = absurd (fresh (subst (λ (n : SessionName). IsIn drawn (n.moment, n.random)) (sym h.1) (l.known v n g)))
      both v w n (inr g) (inl h) = absurd (fresh (subst (λ (n : SessionName). IsIn drawn (n.moment, n.random)) (sym g.1) (l.known w n h)))
      both v w n (inr g) (inr h) = sym g.0 ∙ h.0
