use Rattle.std.proofs.Common.{◌≡◌, ◌+◌, ◌≤◌, drop}
use Rattle.rs_tree.specs.Plain.{sta, statements, choices}
use Rattle.rs_tree.specs.Weight.{weight, weights, weight_arms}
use Rattle.rs_check.specs.Bodies.{all_end, some_ends}
use Rattle.rs_check.proofs.ends.+ends.Given as goal

abbrev pub decreases-some_ends : goal.decreases-some_ends
decreases-some_ends l = weights (statements l.body.now) + 1

abbrev pub decreases-ends : goal.decreases-ends
decreases-ends l = weight (sta l.s.now)

abbrev pub decreases-all_end : goal.decreases-all_end
decreases-all_end l = weight_arms (choices l.arms.now l.other.now) + 2

abbrev pub invariant-some_ends-loop-s : goal.invariant-some_ends-loop-s
invariant-some_ends-loop-s l =
    (some_ends (statements (drop l.s-index l.body)) ≡ some_ends (statements l.body)) ×
    (weights (statements (drop l.s-index l.body)) ≤ weights (statements l.body))

abbrev pub invariant-all_end-loop-arm : goal.invariant-all_end-loop-arm
invariant-all_end-loop-arm l =
    (all_end (choices (drop l.arm-index l.arms) l.other) ≡ all_end (choices l.arms l.other)) ×
    (weight_arms (choices (drop l.arm-index l.arms) l.other) ≤ weight_arms (choices l.arms l.other))
