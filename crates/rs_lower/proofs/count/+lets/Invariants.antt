use Rattle.std.proofs.Common.{◌≡◌, ◌+◌, ◌≤◌, drop}
use Rattle.rs_tree.specs.Plain.{statements, choices, sta}
use Rattle.rs_tree.specs.Weight.{weight, weights, weight_arms}
use Rattle.rs_lower.specs.Counts.{capped, lets_all, lets_arms}
use Rattle.rs_lower.proofs.count.+lets.Given as goal

abbrev pub invariant-lets_all-loop-s : goal.invariant-lets_all-loop-s
invariant-lets_all-loop-s l =
    (capped (l.count + lets_all (statements (drop l.s-index l.body))) ≡ capped (lets_all (statements l.body))) ×
    (weights (statements (drop l.s-index l.body)) ≤ weights (statements l.body)) ×
    (l.count ≤ 65536)

abbrev pub invariant-lets_arms-loop-arm : goal.invariant-lets_arms-loop-arm
invariant-lets_arms-loop-arm l =
    (capped (l.count + lets_arms (choices (drop l.arm-index l.arms) l.other)) ≡ capped (lets_arms (choices l.arms l.other))) ×
    (weight_arms (choices (drop l.arm-index l.arms) l.other) ≤ weight_arms (choices l.arms l.other)) ×
    (l.count ≤ 65536)

abbrev pub decreases-lets : goal.decreases-lets
decreases-lets l = weight (sta l.s.now)

abbrev pub decreases-lets_all : goal.decreases-lets_all
decreases-lets_all l = weights (statements l.body.now) + 1

abbrev pub decreases-lets_arms : goal.decreases-lets_arms
decreases-lets_arms l = weight_arms (choices l.arms.now l.other.now) + 2
