use Rattle.std.proofs.Common.{◌≡◌, ◌+◌, ◌≤◌, drop, []}
use Rattle.rs_tree.specs.Plain.{sta, statements, choices}
use Rattle.rs_tree.specs.Weight.{weight, weights, weight_arms}
use Rattle.rs_check.specs.State.{checked_all, checked_arms}
use Rattle.rs_check.proofs.body.Checker.+statement.Given as goal

abbrev pub decreases-statement : goal.decreases-statement
decreases-statement l = weight (sta l.s.now)

abbrev pub decreases-repetition : goal.decreases-repetition
decreases-repetition l = weights (statements l.body.now) + 3

abbrev pub decreases-block : goal.decreases-block
decreases-block l = weights (statements l.body.now) + 2

abbrev pub decreases-statements : goal.decreases-statements
decreases-statements l = weights (statements l.body.now) + 1

abbrev pub decreases-choice : goal.decreases-choice
decreases-choice l = weight_arms (choices l.arms.now l.other.now) + 4

abbrev pub decreases-otherwise : goal.decreases-otherwise
decreases-otherwise l = weight_arms (choices [] l.other.now) + 3

abbrev pub invariant-statements-loop-s : goal.invariant-statements-loop-s
invariant-statements-loop-s l =
    (checked_all (statements (drop l.s-index l.body)) l.self ≡ checked_all (statements l.body) l.fn.self) ×
    (weights (statements (drop l.s-index l.body)) ≤ weights (statements l.body))

abbrev pub invariant-choice-loop-arm : goal.invariant-choice-loop-arm
invariant-choice-loop-arm l =
    (checked_arms (choices (drop l.arm-index l.arms) l.other) l.self ≡ checked_arms (choices l.arms l.other) l.fn.self) ×
    (weight_arms (choices (drop l.arm-index l.arms) l.other) ≤ weight_arms (choices l.arms l.other))
