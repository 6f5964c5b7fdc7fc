use Rattle.std.proofs.Common.{◌≡◌, drop, Bool, List}
use Rattle.rs_reach.specs.Search.{added}
use Rattle.rs_reach.specs.Places.{IsLeft}
use Rattle.rs_reach.proofs.search.tell.Given as goal

-- what is still to be added gives what all of it gives
abbrev pub invariant-loop-call : goal.invariant-loop-call
invariant-loop-call l = (may : List Bool) → IsLeft may l.initial.left.items l.initial.found.items → (added may l.found.items (drop l.call-index l.called) ≡ added may l.initial.found.items l.called) × IsLeft may l.left.items l.found.items
