-- Drawn pairs, and by which random parts a search for a new one goes on.
use Rattle.std.specs.Prelude.{◌≡◌, ◌+◌, ◌%◌, ◌^◌, ◌<◌, ℕ, List, MatchOption}
use Rattle.std.specs.Ordering.{nat_cmp, ordering_then}
use Rattle.std.specs.declared.cmp.Ordering.{Ordering}
use Rattle.std.specs.Map.{lookup}
use Rattle.std.specs.BTreeMap.{is_at}
use Rattle.inc_fs.specs.Lists.{IsIn}

-- pairs are ordered by the moment, and then by the random part
abbrev pub pair_cmp : ℕ × ℕ → ℕ × ℕ → Ordering
pair_cmp x y = ordering_then (nat_cmp x.0 y.0) (nat_cmp x.1 y.1)

-- from this random part on, wrapping, each before the other one was drawn with this moment
pub record AreDrawnUpTo (drawn : List (ℕ × ℕ)) (moment random other : ℕ) : Type 0 where
  pub steps : ℕ
  pub other_is : other ≡ (random + steps) % 2 ^ 32
  pub before : (j : ℕ) → j < steps → IsIn drawn (moment, (random + j) % 2 ^ 32)

-- exactly the drawn pairs have a random part to go on with, up to which all are drawn
abbrev pub AreSkips : List (ℕ × ℕ) → List ((ℕ × ℕ) × ℕ) → Type 0
AreSkips drawn skips = (pair : ℕ × ℕ)
    → MatchOption (lookup (is_at (pair_cmp pair)) skips) (¬ IsIn drawn pair) (λ next. IsIn drawn pair × AreDrawnUpTo drawn pair.0 pair.1 next)
