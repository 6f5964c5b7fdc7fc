use Rattle.std.proofs.Common.{◌≡◌, ◌++◌, ◌&&◌, false, drop, not}
use Rattle.std.specs.Prelude.{slice_index_or}
use Rattle.rs_reach.specs.Dead.{places_where, is_function, is_silent}
use Rattle.rs_reach.proofs.dead.push_left.Given as goal

abbrev pub invariant-loop-i : goal.invariant-loop-i
invariant-loop-i l = l.to ++ places_where (λ i x. is_function x && slice_index_or l.left i false && not (is_silent x)) l.i (drop l.i l.items) ≡ l.initial.to ++ places_where (λ i x. is_function x && slice_index_or l.left i false && not (is_silent x)) 0 l.items
