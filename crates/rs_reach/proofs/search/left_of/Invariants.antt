use Rattle.std.proofs.Common.{take}
use Rattle.rs_reach.specs.Places.{IsLeft}
use Rattle.rs_reach.proofs.search.left_of.Given as goal

abbrev pub invariant-loop-root : goal.invariant-loop-root
invariant-loop-root l = IsLeft l.may l.left.items (take l.root-index l.roots)
