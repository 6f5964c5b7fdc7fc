use Rattle.std.proofs.Common.{◌≡◌, ◌++◌, drop}
use Rattle.rs_tree.specs.Plain.{expressions, operations}
use Rattle.rs_tree.specs.Leaves.{leaves_all, leaves_by}
use Rattle.rs_names.proofs.paths.Paths.+expression.Given as goal

abbrev pub invariant-all-loop-e : goal.invariant-all-loop-e
invariant-all-loop-e l = l.self ++ leaves_all (expressions (drop l.e-index l.parts)) ≡ l.fn.self ++ leaves_all (expressions l.parts)

abbrev pub invariant-operands-loop-e : goal.invariant-operands-loop-e
invariant-operands-loop-e l = l.self ++ leaves_by (operations (drop l.e-index l.more)) ≡ l.fn.self ++ leaves_by (operations l.more)
