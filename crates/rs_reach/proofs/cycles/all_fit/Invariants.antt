use Rattle.std.proofs.Common.{◌≡◌, ℕ, ◌<◌, List, length, true, Some}
use Rattle.rs_reach.specs.Reached.{named}
use Rattle.rs_reach.specs.Cycles.{fits}
use Rattle.rs_reach.proofs.cycles.all_fit.Given as goal

abbrev pub invariant-loop-at : goal.invariant-loop-at
invariant-loop-at l = (v : ℕ) → v < l.at → (names : List ℕ) → named l.names v ≡ Some names → fits (length l.names) l.classes l.entered v names ≡ true
