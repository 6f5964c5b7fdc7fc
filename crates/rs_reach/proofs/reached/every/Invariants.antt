use Rattle.std.proofs.Common.{◌≡◌, take}
use Rattle.rs_reach.specs.Reached.{every}
use Rattle.rs_reach.proofs.reached.every.Given as goal

abbrev pub invariant-loop-its : goal.invariant-loop-its
invariant-loop-its l = l.may.items ≡ every (take l._its-index l.names)
