use Rattle.std.proofs.Common.{◌≡◌, ◌++◌, drop, false, not}
use Rattle.std.specs.Prelude.{filter, slice_index_or}
use Rattle.rs_reach.specs.Dead.{numbers_where}
use Rattle.rs_units.specs.Members.{is_inline}
use Rattle.rs_provider.proofs.seeking.push_found.Given as goal

abbrev pub invariant-loop-i : goal.invariant-loop-i
invariant-loop-i l =
    l.to.items ++ filter (λ i. not (slice_index_or l.left i false)) (numbers_where is_inline l.i (drop l.i l.items)) ≡ l.initial.to.items ++ filter (λ i. not (slice_index_or l.left i false)) (numbers_where is_inline 0 l.items)
