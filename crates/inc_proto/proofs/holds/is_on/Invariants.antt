use Rattle.std.proofs.Common.{take, reverse, ◌↔◌, IsTrue}
use Rattle.inc_names.specs.Entries.{lock_text}
use Rattle.inc_proto.specs.Views.{opening}
use Rattle.inc_proto.specs.Sought.{IsOnBy}
use Rattle.inc_proto.proofs.holds.is_on.Given as goal

abbrev pub invariant-loop-step : goal.invariant-loop-step
invariant-loop-step l = IsTrue l.on ↔ IsOnBy l.way l.krate (lock_text l.n) (opening l.h (reverse (take l.step-index l.steps)))
