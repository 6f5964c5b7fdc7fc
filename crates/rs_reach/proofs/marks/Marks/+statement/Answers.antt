use Rattle.std.proofs.Common.{arith}
use Rattle.rs_tree.specs.Equations.{choices_at}
use Rattle.rs_reach.proofs.Steps.{arm_step}
use Rattle.rs_reach.proofs.marks.Marks.+statement.Goals as goal

pub choice-loop-arm-preserved : goal.choice-loop-arm-preserved
choice-loop-arm-preserved t c = (
  arm_step c.loop-arm.self c.expression.new.self c.statements.new.self _ c.args.arms.now c.args.other.now c.loop-arm.arm-index c.arm-item.result c.as_slice.result.now
      c.loop-arm-test.true c.arm-item.is c.loop-arm.invariant.0 (c.in_ok-expression.ensures {u = tt}) c.as_slice.ensures (c.in_ok-statements.ensures {u = tt}),
  grind (arith, choices_at),
)
