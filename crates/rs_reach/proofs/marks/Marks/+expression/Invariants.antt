use Rattle.std.proofs.Common.{◌≡◌, ◌++◌, drop}
use Rattle.rs_tree.specs.Plain.{expressions, operations}
use Rattle.rs_reach.specs.Calls.{marks_all, marks_by}
use Rattle.rs_reach.proofs.marks.Marks.+expression.Given as goal

abbrev pub invariant-all-loop-e : goal.invariant-all-loop-e
invariant-all-loop-e l = l.self ++ marks_all (expressions (drop l.e-index l.parts)) ≡ l.fn.self ++ marks_all (expressions l.parts)

abbrev pub invariant-operands-loop-e : goal.invariant-operands-loop-e
invariant-operands-loop-e l = l.self ++ marks_by (operations (drop l.e-index l.more)) ≡ l.fn.self ++ marks_by (operations l.more)
