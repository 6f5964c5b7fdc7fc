use Rattle.std.proofs.Common.{◌≡◌}
use Rattle.std.specs.VecDeque.{deque_len}
use Rattle.rs_plans.specs.Plans.{first_new}
use Rattle.rs_provider.proofs.left.next_new.Given as goal

abbrev pub invariant-loop-place : goal.invariant-loop-place
invariant-loop-place l = first_new l.known l.places.items ≡ first_new l.known l.initial.places.items

abbrev pub decreases-loop-place : goal.decreases-loop-place
decreases-loop-place l = deque_len l.places
