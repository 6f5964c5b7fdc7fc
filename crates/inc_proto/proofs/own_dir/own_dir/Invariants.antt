use Rattle.std.proofs.Common.{take, reverse, ◌≡◌}
use Rattle.inc_proto.specs.Views.{dir}
use Rattle.inc_proto.proofs.own_dir.own_dir.Given as goal

abbrev pub invariant-loop-step : goal.invariant-loop-step
invariant-loop-step l = l.own ≡ dir (reverse (take l.step-index l.steps))
