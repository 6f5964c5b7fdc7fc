use Rattle.std.proofs.Common.{◌≡◌, ◌++◌, drop}
use Rattle.rs_reach.specs.Calls.{places_at}
use Rattle.rs_reach.proofs.calls.places_at.Given as goal

abbrev pub invariant-loop-number : goal.invariant-loop-number
invariant-loop-number l = l.places ++ places_at l.items (drop l.number-index l.numbers) ≡ places_at l.items l.numbers
