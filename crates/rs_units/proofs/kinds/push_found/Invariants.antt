use Rattle.std.proofs.Common.{◌≡◌, ◌++◌, drop, false, not}
use Rattle.std.specs.Prelude.{filter, slice_index_or}
use Rattle.rs_units.proofs.kinds.push_found.Given as goal

abbrev pub invariant-loop-number : goal.invariant-loop-number
invariant-loop-number l = l.to.items ++ filter (λ i. not (slice_index_or l.left i false)) (drop l.number-index l.numbers) ≡ l.initial.to.items ++ filter (λ i. not (slice_index_or l.left i false)) l.numbers
