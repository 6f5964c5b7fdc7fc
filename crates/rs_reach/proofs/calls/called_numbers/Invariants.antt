use Rattle.std.proofs.Common.{◌≡◌, ◌++◌, drop}
use Rattle.rs_reach.specs.Calls.{called}
use Rattle.rs_reach.specs.Places.{numbers}
use Rattle.rs_reach.proofs.calls.called_numbers.Given as goal

abbrev pub invariant-loop-i : goal.invariant-loop-i
invariant-loop-i l = l.its.items ++ numbers l.places (called (drop l.i l.marks) (drop l.i l.found)) ≡ numbers l.places (called l.marks l.found)
