-- Counts that stand still at the end of `u64`.
use Rattle.std.specs.Prelude.{ℕ, ◌+◌, ◌-◌, ◌^◌, min, max}

-- one more
abbrev pub ticked : ℕ → ℕ
ticked n = min (n + 1) (2 ^ 64 - 1)

-- so many more
abbrev pub raised : ℕ → ℕ → ℕ
raised count more = max count (min (count + more) (2 ^ 64 - 1))
