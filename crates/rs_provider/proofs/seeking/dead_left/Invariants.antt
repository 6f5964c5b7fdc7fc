use Rattle.std.proofs.Common.{◌≡◌, ◌++◌, ◌&&◌, false, drop, not}
use Rattle.std.specs.Prelude.{slice_index_or}
use Rattle.rs_reach.specs.Dead.{places_where, is_function, is_silent}
use Rattle.rs_provider.proofs.seeking.dead_left.Given as goal

abbrev pub invariant-loop-i : goal.invariant-loop-i
invariant-loop-i l = l.places ++ places_where (λ i x. is_function x && slice_index_or l.left i false && not (is_silent x)) l.i (drop l.i l.items) ≡ places_where (λ i x. is_function x && slice_index_or l.left i false && not (is_silent x)) 0 l.items
