-- Numbers given out from 0 on.
use Rattle.std.proofs.Common.{◌≡◌, ◌+◌, ◌<◌, ℕ, zero, suc, ◌∷◌, refl, inl, inr, arith, add-one}
use Rattle.inc_fs.specs.Lists.{IsIn, below}

-- once the next number was given
pub below-given : (count next number : ℕ) → number ≡ count → next ≡ count + 1 → below next ≡ number ∷ below count
unfolding below
below-given count next number is more = rw (is, more, add-one) refl

below_bound : (n m : ℕ) → IsIn (below n) m → m < n
unfolding below
below_bound zero m within = absurd within
below_bound (suc n) m (inl is) = omega arith
below_bound (suc n) m (inr within) = let less : m < n = below_bound n m within in omega arith

-- the next number is a new one
pub below_free : (count number : ℕ) → number ≡ count → ¬ IsIn (below count) number
below_free count number is within = let less : number < count = below_bound count number within in omega arith
