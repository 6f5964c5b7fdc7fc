use Rattle.std.proofs.Common.{take, reverse}
use Rattle.inc_proto.specs.Views.{HasAny}
use Rattle.inc_proto.specs.Sought.{IsSought}
use Rattle.inc_proto.proofs.sought.has.Given as goal

abbrev pub invariant-loop-step : goal.invariant-loop-step
invariant-loop-step l = ¬ HasAny (IsSought l.sought) (reverse (take l.step-index l.steps))
