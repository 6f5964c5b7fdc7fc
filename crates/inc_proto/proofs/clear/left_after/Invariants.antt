use Rattle.std.proofs.Common.{take, reverse, ◌≡◌}
use Rattle.inc_proto.specs.Views.{left_after}
use Rattle.inc_proto.proofs.clear.left_after.Given as goal

abbrev pub invariant-loop-step : goal.invariant-loop-step
invariant-loop-step l = l.left ≡ left_after l.krate (reverse (take l.step-index l.steps)) l.names
