use Rattle.std.proofs.Common.{◌≡◌, ◌++◌, vec_len}
use Rattle.rs_provider.proofs.left.put_front.Given as goal

abbrev pub invariant-loop-place : goal.invariant-loop-place
invariant-loop-place l = l.places.items ++ l.to.items ≡ l.initial.places.items ++ l.initial.to.items

abbrev pub decreases-loop-place : goal.decreases-loop-place
decreases-loop-place l = vec_len l.places
