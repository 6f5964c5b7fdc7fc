use Rattle.std.proofs.Common.{◌≡◌, take}
use Rattle.rs_provider.specs.Begun.{values_of}
use Rattle.rs_provider.proofs.resuming.are_first.Given as goal

abbrev pub invariant-loop-i : goal.invariant-loop-i
invariant-loop-i l = take l.i l.values ≡ values_of (take l.i l.known)
