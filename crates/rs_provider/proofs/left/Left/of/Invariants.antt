use Rattle.std.proofs.Common.{◌≡◌}
use Rattle.rs_provider.proofs.left.Left.of.Given as goal

abbrev pub invariant-loop-place : goal.invariant-loop-place
invariant-loop-place l = l.left ≡ l.yielded
