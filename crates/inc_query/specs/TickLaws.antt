-- Rises of a count add up.
use Rattle.std.proofs.Common.{◌≡◌, ℕ, ◌+◌, ◌<◌, ◌≤◌, ◌^◌, arith}
use Rattle.inc_base.specs.Meters.{ticked}
use Rattle.inc_query.specs.Ticks.{rise}

pub rise-none : (count : ℕ) → rise count 0 ≡ count
unfolding rise
rise-none count = omega arith

pub rise-rise : (count m n : ℕ) → rise (rise count m) n ≡ rise count (m + n)
unfolding rise
rise-rise count m n = omega arith

-- a tick of a count that fits its type is a rise by one
pub rise-one : (count : ℕ) → count < 2 ^ 64 → rise count 1 ≡ ticked count
unfolding rise
rise-one count small = omega (arith, small)

-- a rise is one
pub rise-least : (count m : ℕ) → count ≤ rise count m
unfolding rise
rise-least count m = omega arith
