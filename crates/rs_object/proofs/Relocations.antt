-- The test of relocations says what it should.
use Rattle.std.proofs.Common.{◌≡◌, ℕ, ◌+◌, ◌≤◌, Bool, true, false, ◌&&◌, nat_le, List, [], ◌∷◌, take, drop, refl, Decides, inl, inr}
use Rattle.std.specs.Str.{bytes_eq}
use Rattle.std.proofs.lemmas.Slice.Eq.{bytes_eq-Decides}
use Rattle.std.proofs.lemmas.Bool.Decides.{leb_tells}
use Rattle.std.proofs.lemmas.Bool.{le-leb}
use Rattle.rs_object.specs.Grammar.{AreRelocs, are_relocs}

decides_le : (a b : ℕ) → Decides (nat_le a b) (a ≤ b)
decides_le a b = (λ e. elim (leb_tells a b) [ inl h ↦ h.1 | inr h ↦ absurd (let f = h.0 in cc) ], le-leb a b)

three : {P Q R : Type 0} (a b c : Bool) → Decides a P → Decides b Q → Decides c R → Decides (a && b && c) (P × Q × R)
three true true c p q r = (λ e. (p.0 refl, q.0 refl, r.0 e), λ h. r.1 h.2)
three true false c p q r = (λ e. absurd cc, λ h. absurd (let f = q.1 h.1 in cc))
three false b c p q r = (λ e. absurd (first b c e), λ h. absurd (let f = p.1 h.0 in cc))
  where
    first : (b c : Bool) → (false && b && c) ≡ true → ⊥
    first b c e = cc

pub relocs_decide : (from : ℕ) (code : List ℕ) (rs : List (ℕ × List ℕ)) → Decides (are_relocs from code rs) (AreRelocs from code rs)
relocs_decide from code [] = (λ e. tt, λ h. refl)
relocs_decide from code (r ∷ rs) =
    let d = three (nat_le from r.0) (bytes_eq (take 4 (drop r.0 code)) (0 ∷ 0 ∷ 0 ∷ 0 ∷ [])) (are_relocs (r.0 + 4) code rs) (decides_le from r.0) (bytes_eq-Decides (take 4 (drop r.0 code)) (0 ∷ 0 ∷ 0 ∷ 0 ∷ [])) (relocs_decide (r.0 + 4) code rs) in
    (λ e. let p = d.0 e in (record { behind = p.0; zeros = p.1 }, p.2), λ h. d.1 (h.0.behind, h.0.zeros, h.1))
