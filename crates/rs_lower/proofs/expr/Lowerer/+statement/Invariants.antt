use Rattle.std.proofs.Common.{◌≡◌, ◌+◌, ◌≤◌, drop, [], ◌∷◌}
use Rattle.rs_tree.specs.Plain.{statements, choices, sta, If}
use Rattle.rs_tree.specs.Weight.{weight, weights, weight_arms}
use Rattle.rs_tree.specs.declared.ir.Instr.TheVariants.{Label}
use Rattle.rs_lower.specs.Counts.{places_all, lets_all, places_arms, lets_arms}
use Rattle.rs_lower.specs.State.{put, with_sta, with_stas, with_arms}
use Rattle.rs_lower.proofs.expr.Lowerer.+statement.Given as goal

abbrev pub invariant-statements-loop-s : goal.invariant-statements-loop-s
invariant-statements-loop-s l =
    (with_stas (statements (drop l.s-index l.body)) l.self ≡ with_stas (statements l.body) l.fn.self) ×
    (weights (statements (drop l.s-index l.body)) ≤ weights (statements l.body)) ×
    (l.self.labels + places_all (statements (drop l.s-index l.body)) ≤ 65535) ×
    (l.self.slots + lets_all (statements (drop l.s-index l.body)) ≤ 65535)

abbrev pub invariant-choice-loop-arm : goal.invariant-choice-loop-arm
invariant-choice-loop-arm l =
    (put (Label l.end ∷ []) (with_arms l.end (choices (drop l.arm-index l.more) l.other) l.self) ≡ with_sta (If (choices l.fn.arms l.other)) l.fn.self) ×
    (weight_arms (choices (drop l.arm-index l.more) l.other) ≤ weight_arms (choices l.fn.arms l.other)) ×
    (l.self.labels + places_arms (choices (drop l.arm-index l.more) l.other) ≤ 65535) ×
    (l.self.slots + lets_arms (choices (drop l.arm-index l.more) l.other) ≤ 65535)

abbrev pub decreases-statement : goal.decreases-statement
decreases-statement l = weight (sta l.s.now)

abbrev pub decreases-repetition : goal.decreases-repetition
decreases-repetition l = weights (statements l.body.now) + 3

abbrev pub decreases-block : goal.decreases-block
decreases-block l = weights (statements l.body.now) + 2

abbrev pub decreases-statements : goal.decreases-statements
decreases-statements l = weights (statements l.body.now) + 1

abbrev pub decreases-arm : goal.decreases-arm
decreases-arm l = weights (statements l.body.now) + 3

abbrev pub decreases-choice : goal.decreases-choice
decreases-choice l = weight_arms (choices l.arms.now l.other.now) + 4

abbrev pub decreases-otherwise : goal.decreases-otherwise
decreases-otherwise l = weight_arms (choices [] l.other.now) + 3
