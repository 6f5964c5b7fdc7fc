use Rattle.std.proofs.Common.{◌≡◌, ◌≤◌, ◌++◌, length, drop}
use Rattle.inc_base.specs.Base36.{last_digits36}
use Rattle.inc_base.proofs.base36.last_digits.Given as goal

abbrev pub invariant-loop-at : goal.invariant-loop-at
invariant-loop-at l =
    (l.at ≤ 25) × (length l.digits ≡ 25) × (last_digits36 l.at l.rest ++ drop l.at l.digits ≡ last_digits36 25 l.fn.v)

abbrev pub decreases-loop-at : goal.decreases-loop-at
decreases-loop-at l = l.at
