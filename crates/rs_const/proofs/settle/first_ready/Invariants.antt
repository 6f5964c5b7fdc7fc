use Rattle.std.proofs.Common.{◌≡◌, ℕ, ◌<◌, Bool}
use Rattle.rs_const.specs.State.{is_ready}
use Rattle.rs_const.proofs.settle.first_ready.Given as goal

abbrev pub invariant-loop-at : goal.invariant-loop-at
invariant-loop-at l = (i : ℕ) → i < l.at → is_ready l.its l.values i ≡ Bool.false
