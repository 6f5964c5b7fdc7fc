use Rattle.std.proofs.Common.{◌≡◌, ◌+◌, ◌≤◌, drop}
use Rattle.rs_tree.specs.Plain.{statements, choices, sta}
use Rattle.rs_tree.specs.Weight.{weight, weights, weight_arms}
use Rattle.rs_lower.specs.Counts.{capped, places_all, places_arms}
use Rattle.rs_lower.proofs.count.+places.Given as goal

abbrev pub invariant-places_all-loop-s : goal.invariant-places_all-loop-s
invariant-places_all-loop-s l =
    (capped (l.count + places_all (statements (drop l.s-index l.body))) ≡ capped (places_all (statements l.body))) ×
    (weights (statements (drop l.s-index l.body)) ≤ weights (statements l.body)) ×
    (l.count ≤ 65536)

abbrev pub invariant-places_arms-loop-arm : goal.invariant-places_arms-loop-arm
invariant-places_arms-loop-arm l =
    (capped (l.count + places_arms (choices (drop l.arm-index l.arms) l.other)) ≡ capped (places_arms (choices l.arms l.other))) ×
    (weight_arms (choices (drop l.arm-index l.arms) l.other) ≤ weight_arms (choices l.arms l.other)) ×
    (l.count ≤ 65536)

abbrev pub decreases-places : goal.decreases-places
decreases-places l = weight (sta l.s.now)

abbrev pub decreases-places_all : goal.decreases-places_all
decreases-places_all l = weights (statements l.body.now) + 1

abbrev pub decreases-places_arms : goal.decreases-places_arms
decreases-places_arms l = weight_arms (choices l.arms.now l.other.now) + 2
