use Rattle.std.proofs.Common.{◌≡◌, ℕ, Bool, length, Some}
use Rattle.std.specs.Prelude.{◌↔◌, IsTrue, slice_get}
use Rattle.rs_reach.specs.Reached.{IsReachedFrom}
use Rattle.rs_reach.proofs.cycles.in_cycles.Given as goal

abbrev pub invariant-loop-at : goal.invariant-loop-at
invariant-loop-at l = record {
  all : length l.marks.items ≡ l.at;
  each : (i : ℕ) (b : Bool) → slice_get l.marks.items i ≡ Some b → IsTrue b ↔ IsReachedFrom l.names i i;
}
