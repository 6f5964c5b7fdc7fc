use Rattle.std.proofs.Common.{◌≡◌, take}
use Rattle.inc_engine.specs.Marking.{asked}
use Rattle.inc_engine.proofs.finish.order_of.Given as goal

abbrev pub invariant-loop-done : goal.invariant-loop-done
invariant-loop-done l = l.order.items ≡ asked (take l.done-index l.memo)
