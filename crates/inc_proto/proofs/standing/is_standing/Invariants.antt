use Rattle.std.proofs.Common.{take, reverse, ◌↔◌, IsTrue}
use Rattle.inc_proto.specs.Views.{IsStanding}
use Rattle.inc_proto.proofs.standing.is_standing.Given as goal

abbrev pub invariant-loop-step : goal.invariant-loop-step
invariant-loop-step l = IsTrue l.stands ↔ IsStanding l.krate l.entry (reverse (take l.step-index l.steps))
