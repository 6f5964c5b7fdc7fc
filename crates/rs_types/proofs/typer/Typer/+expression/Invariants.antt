use Rattle.std.proofs.Common.{◌≡◌, ◌+◌, ◌*◌, ◌≤◌, ◌&&◌, drop}
use Rattle.rs_tree.specs.declared.answers.Found.TheVariants.{Absent}
use Rattle.rs_tree.specs.Plain.{exp, expressions, operations, And}
use Rattle.rs_tree.specs.Leaves.{filled_all, filled_by}
use Rattle.rs_tree.specs.Weight.{size, sizes, sizes_by}
use Rattle.rs_types.specs.Types.{all_ints, all_truths, args_fit}
use Rattle.rs_types.specs.State.{argued, at_any, chained, conjoined, context, looked}
use Rattle.rs_types.proofs.typer.Typer.+expression.Given as goal

abbrev pub decreases-expression : goal.decreases-expression
decreases-expression l = 3 * size (exp l.e.now)

abbrev pub decreases-needed : goal.decreases-needed
decreases-needed l = 3 * size (exp l.e.now) + 1

abbrev pub decreases-argument : goal.decreases-argument
decreases-argument l = 3 * size (exp l.e.now) + 1

abbrev pub decreases-call : goal.decreases-call
decreases-call l = 3 * sizes (expressions l.args.now) + 3

abbrev pub decreases-arguments : goal.decreases-arguments
decreases-arguments l = 3 * sizes (expressions l.args.now) + 2

abbrev pub decreases-unary : goal.decreases-unary
decreases-unary l = 3 * size (exp l.inner.now) + 2

abbrev pub decreases-arithmetic : goal.decreases-arithmetic
decreases-arithmetic l = 3 * size (exp l.first.now) + 3 * sizes_by (operations l.more.now) + 4

abbrev pub decreases-operands : goal.decreases-operands
decreases-operands l = 3 * sizes_by (operations l.more.now) + 2

abbrev pub decreases-truths : goal.decreases-truths
decreases-truths l = 3 * sizes (expressions l.parts.now) + 2

abbrev pub decreases-comparison : goal.decreases-comparison
decreases-comparison l = 3 * size (exp l.a.now) + 3 * size (exp l.b.now) + 1

abbrev pub invariant-arguments-loop-e : goal.invariant-arguments-loop-e
invariant-arguments-loop-e l =
    (argued l.left (expressions (drop l.e-index l.args)) l.self ≡ argued l.fn.wants (expressions l.args) l.fn.self) ×
    ((l.fit && args_fit (context l.self) l.left (filled_all Absent l.self.answers (expressions (drop l.e-index l.args))))
    ≡ args_fit (context l.fn.self) l.fn.wants (filled_all Absent l.fn.self.answers (expressions l.args))) ×
    (sizes (expressions (drop l.e-index l.args)) ≤ sizes (expressions l.args))

abbrev pub invariant-operands-loop-e : goal.invariant-operands-loop-e
invariant-operands-loop-e l =
    (chained (operations (drop l.e-index l.more)) l.self ≡ chained (operations l.more) l.fn.self) ×
    ((l.all && all_ints (context l.self) (filled_by Absent l.self.answers (operations (drop l.e-index l.more))))
    ≡ all_ints (context l.fn.self) (filled_by Absent l.fn.self.answers (operations l.more))) ×
    (sizes_by (operations (drop l.e-index l.more)) ≤ sizes_by (operations l.more))

abbrev pub invariant-truths-loop-e : goal.invariant-truths-loop-e
invariant-truths-loop-e l =
    (conjoined (expressions (drop l.e-index l.parts)) l.self ≡ looked (And at_any (expressions l.parts)) l.fn.self) ×
    ((l.all && all_truths (context l.self) (filled_all Absent l.self.answers (expressions (drop l.e-index l.parts))))
    ≡ all_truths (context l.fn.self) (filled_all Absent l.fn.self.answers (expressions l.parts))) ×
    (sizes (expressions (drop l.e-index l.parts)) ≤ sizes (expressions l.parts))
