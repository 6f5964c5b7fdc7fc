use Rattle.std.proofs.Common.{◌≡◌, take}
use Rattle.rs_tree.proofs.+expressions.Given as goal

abbrev pub invariant-copies::expressions-loop-expr : goal.invariant-copies::expressions-loop-expr
invariant-copies::expressions-loop-expr l = l.copies ≡ take l.expr-index l.all

abbrev pub invariant-copies::operations-loop-op : goal.invariant-copies::operations-loop-op
invariant-copies::operations-loop-op l = l.copies ≡ take l.op-index l.all
