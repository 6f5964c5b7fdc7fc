use Rattle.std.proofs.Common.{◌≡◌, ◌+◌, ◌≤◌, [], None, drop, take}
use Rattle.rs_tree.specs.Plain.{choices, sta, statements}
use Rattle.rs_tree.specs.Weight.{weight, weight_arms, weights}
use Rattle.rs_tree.proofs.+statements.Given as goal

abbrev pub decreases-tree::Stmt::copy : goal.decreases-tree::Stmt::copy
decreases-tree::Stmt::copy l = weight (sta l.self.now)

abbrev pub decreases-copies::statements : goal.decreases-copies::statements
decreases-copies::statements l = weights (statements l.all.now) + 1

abbrev pub decreases-copies::arms : goal.decreases-copies::arms
decreases-copies::arms l = weight_arms (choices l.all.now None) + 2

abbrev pub decreases-copies::otherwise : goal.decreases-copies::otherwise
decreases-copies::otherwise l = weight_arms (choices [] l.of.now) + 2

abbrev pub invariant-copies::statements-loop-stmt : goal.invariant-copies::statements-loop-stmt
invariant-copies::statements-loop-stmt l =
    (l.copies ≡ take l.stmt-index l.all) ×
    (weights (statements (drop l.stmt-index l.all)) ≤ weights (statements l.all))

abbrev pub invariant-copies::arms-loop-cond : goal.invariant-copies::arms-loop-cond
invariant-copies::arms-loop-cond l =
    (l.copies ≡ take l.cond-index l.all) ×
    (weight_arms (choices (drop l.cond-index l.all) None) ≤ weight_arms (choices l.all None))
