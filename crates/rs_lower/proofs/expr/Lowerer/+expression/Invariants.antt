use Rattle.std.proofs.Common.{◌≡◌, ◌+◌, ◌*◌, ◌≤◌, drop}
use Rattle.rs_tree.specs.Plain.{exp, expressions, operations}
use Rattle.rs_tree.specs.Weight.{size, sizes, sizes_by}
use Rattle.rs_lower.specs.Counts.{labels_all, labels_by}
use Rattle.rs_lower.specs.State.{with_exps, with_operands, with_parts, with_chain, chained_of, conjoined_of, logic_of}
use Rattle.rs_lower.proofs.expr.Lowerer.+expression.Given as goal

abbrev pub invariant-arguments-loop-e : goal.invariant-arguments-loop-e
invariant-arguments-loop-e l =
    (with_exps (expressions (drop l.e-index l.args)) l.self ≡ with_exps (expressions l.args) l.fn.self) ×
    (sizes (expressions (drop l.e-index l.args)) ≤ sizes (expressions l.args)) ×
    (l.self.labels + 0 + labels_all (expressions (drop l.e-index l.args)) ≤ 65535)

abbrev pub invariant-operands-loop-op : goal.invariant-operands-loop-op
invariant-operands-loop-op l =
    (with_operands (operations (drop l.op-index l.more)) l.self ≡ with_operands (operations l.more) l.fn.self) ×
    (sizes_by (operations (drop l.op-index l.more)) ≤ sizes_by (operations l.more)) ×
    (l.self.labels + labels_by (operations (drop l.op-index l.more)) ≤ 65535) ×
    (chained_of (operations (drop l.op-index l.more)) l.fixed l.self ≡ chained_of (operations l.more) l.fn.first l.fn.self)

abbrev pub invariant-parts-loop-e : goal.invariant-parts-loop-e
invariant-parts-loop-e l =
    (with_parts l.either' l.decided (expressions (drop l.e-index l.more)) l.self ≡ with_chain l.either' (expressions l.fn.parts) l.fn.self) ×
    (sizes (expressions (drop l.e-index l.more)) ≤ sizes (expressions l.fn.parts)) ×
    (l.self.labels + 1 + labels_all (expressions (drop l.e-index l.more)) ≤ 65535) ×
    (conjoined_of l.either' (expressions (drop l.e-index l.more)) l.fixed l.self ≡ logic_of l.either' (expressions l.fn.parts) l.fn.self)

abbrev pub decreases-expression : goal.decreases-expression
decreases-expression l = 3 * size (exp l.e.now)

abbrev pub decreases-call : goal.decreases-call
decreases-call l = 3 * sizes (expressions l.args.now) + 3

abbrev pub decreases-arguments : goal.decreases-arguments
decreases-arguments l = 3 * sizes (expressions l.args.now) + 2

abbrev pub decreases-unary : goal.decreases-unary
decreases-unary l = 3 * size (exp l.inner.now) + 2

abbrev pub decreases-arithmetic : goal.decreases-arithmetic
decreases-arithmetic l = 3 * size (exp l.first.now) + 3 * sizes_by (operations l.more.now) + 4

abbrev pub decreases-operands : goal.decreases-operands
decreases-operands l = 3 * sizes_by (operations l.more.now) + 2

abbrev pub decreases-comparison : goal.decreases-comparison
decreases-comparison l = 3 * size (exp l.a.now) + 3 * size (exp l.b.now) + 1

abbrev pub decreases-chain : goal.decreases-chain
decreases-chain l = 3 * sizes (expressions l.parts.now) + 3

abbrev pub decreases-parts : goal.decreases-parts
decreases-parts l = 3 * sizes (expressions l.parts.now) + 2
