-- Units that are emitted one by one.
use Rattle.std.proofs.Common.{◌≡◌, ℕ, ◌+◌, ◌<◌, ◌^◌, arith}
use Rattle.inc_base.specs.Meters.{raised, ticked}

pub raised_none : (count : ℕ) → count < 2 ^ 64 → raised count 0 ≡ count
raised_none count l = omega (arith, l)

pub raised_more : (count n : ℕ) → count < 2 ^ 64 → ticked (raised count n) ≡ raised count (n + 1)
raised_more count n l = omega (arith, l)

pub ruleset emissions = (raised_none, raised_more)
