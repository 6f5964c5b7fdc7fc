-- Functions of a number, or of a path, that change at one point.
use Rattle.std.specs.Prelude.{◌≡◌, ◌≢◌, ◌⊎◌, ◌==◌, ℕ, Bool, true, false, cond, refl}
use Rattle.std.proofs.Common.{ap, sym, ◌∙◌, subst, inl, inr, eq-eqb}
use Rattle.std.proofs.lemmas.Bool.{ne_eqb, eqb-true, true≢false}
use Rattle.std.specs.Ordering.{is_eq}
use Rattle.std.specs.Cmp.{tied_itself}
use Rattle.inc_fs.specs.Paths.{Text, Path, path_cmp}
use Rattle.inc_fs.specs.Lookups.{path_cmp_total, same_paths}

-- f, but x at w
abbrev pub with_at : {X : Type 0} → (ℕ → X) → ℕ → X → ℕ → X
with_at f w x v = cond (w == v) x (f v)

-- numbers are the same or not
pub same_number : (v w : ℕ) → (v ≡ w) ⊎ (v ≢ w)
same_number v w = go (v == w) refl
  where
    go : (b : Bool) → v == w ≡ b → (v ≡ w) ⊎ (v ≢ w)
    go true is = inl (eqb-true v w is)
    go false is = inr (λ e. true≢false (sym (eq-eqb v w e) ∙ is))

module _ {X : Type 0} (f : ℕ → X) (w : ℕ) (x : X) where
  pub here : with_at f w x w ≡ x
  here = ap (λ b. cond b x (f w)) (eq-eqb w w refl)

  pub there : (v : ℕ) → w ≢ v → with_at f w x v ≡ f v
  there v apart = ap (λ b. cond b x (f v)) (ne_eqb w v apart)

  -- what holds at each other point as before, and at this point anew, holds everywhere
  pub each : (P : ℕ → X → Type 0) → ((v : ℕ) → w ≢ v → P v (f v)) → P w x → (v : ℕ) → P v (with_at f w x v)
  each P others this v = go (w == v) refl
    where
      go : (b : Bool) → w == v ≡ b → P v (cond b x (f v))
      go true is = subst (λ u. P u x) (eqb-true w v is) this
      go false is = others v (λ e. true≢false (sym (eq-eqb w v e) ∙ is))

  -- where x stood there already, nothing changes
  pub with_same : f w ≡ x → with_at f w x ≡ f
  with_same is = λ i v. each (λ v y. y ≡ f v) (λ v _. refl) (sym is) v i

-- f, but x at the path of this entry
abbrev pub put_at : {X : Type 0} → (Text → Text → X) → Text → Text → X → Text → Text → X
put_at f krate entry x k e = cond (is_eq (path_cmp (k, e) (krate, entry))) x (f k e)

module _ {X : Type 0} (f : Text → Text → X) (krate entry : Text) (x : X) where
  pub put_here : put_at f krate entry x krate entry ≡ x
  put_here = ap (λ r. cond (is_eq r) x (f krate entry)) (tied_itself path_cmp_total (krate, entry))

  -- what holds at each other path as before, and at this path anew, holds everywhere
  pub each_path : (P : Text → Text → X → Type 0) → ((k e : Text) → is_eq (path_cmp (k, e) (krate, entry)) ≡ false → P k e (f k e)) → P krate entry x → (k e : Text) → P k e (put_at f krate entry x k e)
  each_path P others this k e = go (same_paths (k, e) (krate, entry))
    where
      go : (◌≡◌ {A = Path} (k, e) (krate, entry)) ⊎ (is_eq (path_cmp (k, e) (krate, entry)) ≡ false) → P k e (put_at f krate entry x k e)
      go (inl is) = subst (λ (p : Path). P p.0 p.1 (put_at f krate entry x p.0 p.1)) (sym is) (subst (P krate entry) (sym put_here) this)
      go (inr off) = subst (λ b. P k e (cond b x (f k e))) (sym off) (others k e off)

  pub put_there : (k e : Text) → e ≢ entry → put_at f krate entry x k e ≡ f k e
  put_there k e off = go (same_paths (k, e) (krate, entry))
    where
      go : (◌≡◌ {A = Path} (k, e) (krate, entry)) ⊎ (is_eq (path_cmp (k, e) (krate, entry)) ≡ false) → put_at f krate entry x k e ≡ f k e
      go (inl is) = absurd (off (ap (λ (p : Path). p.1) is))
      go (inr apart) = ap (λ b. cond b x (f k e)) apart

  -- where x stood there already, nothing changes
  pub put_same : f krate entry ≡ x → put_at f krate entry x ≡ f
  put_same is = λ i k e. each_path (λ k e y. y ≡ f k e) (λ k e _. refl) (sym is) k e i

-- a part of what changes at a path
module _ {X Y : Type 0} (g : X → Y) (f : Text → Text → X) (krate entry : Text) (x : X) where
  pub part_put : (λ k e. g (put_at f krate entry x k e)) ≡ put_at (λ k e. g (f k e)) krate entry (g x)
  part_put = λ i k e. go (is_eq (path_cmp (k, e) (krate, entry))) k e i
    where
      go : (b : Bool) (k e : Text) → g (cond b x (f k e)) ≡ cond b (g x) (g (f k e))
      go true k e = refl
      go false k e = refl
