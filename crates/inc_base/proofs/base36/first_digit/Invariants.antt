use Rattle.std.proofs.Common.{◌≡◌, ℕ, ◌-◌, ◌<◌, length, get_or}
use Rattle.inc_base.proofs.base36.first_digit.Given as goal

abbrev pub invariant-loop-at : goal.invariant-loop-at
invariant-loop-at l = (l.at < length l.digits) × ((k : ℕ) → k < l.at → get_or l.digits k 0 ≡ 48)

abbrev pub decreases-loop-at : goal.decreases-loop-at
decreases-loop-at l = length l.digits - l.at
