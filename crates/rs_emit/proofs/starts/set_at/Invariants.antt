use Rattle.std.proofs.Common.{◌≡◌, ℕ, ◌+◌, ◌-◌, vec_len}
use Rattle.std.specs.Prelude.{slice_index}
use Rattle.rs_emit.proofs.starts.set_at.Given as goal

abbrev pub invariant-loop-starts : goal.invariant-loop-starts
invariant-loop-starts l = (q : ℕ) → slice_index l.starts.items q ≡ slice_index l.initial.starts.items q

abbrev pub decreases-loop-starts : goal.decreases-loop-starts
decreases-loop-starts l = l.label + 1 - vec_len l.starts
