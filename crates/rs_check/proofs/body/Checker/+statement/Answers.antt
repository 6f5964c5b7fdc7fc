use Rattle.std.proofs.Common.{arith}
use Rattle.rs_tree.specs.Equations.{choices_at, statements_at}
use Rattle.rs_tree.specs.Plain.{statements}
use Rattle.rs_check.proofs.Bodies.{stas_next, arms_next, block_end}
use Rattle.rs_check.proofs.body.Checker.+statement.Goals as goal

pub choice-loop-arm-preserved : goal.choice-loop-arm-preserved
choice-loop-arm-preserved t c = (
  arms_next c.args.arms.now c.args.other.now c.loop-arm.arm-index c.arm-item.result c.as_slice.result.now c.loop-arm.self c.condition.new.self c.block.new.self _
      c.loop-arm-test.true c.arm-item.is (c.in_ok-condition.ensures {u = tt}) c.as_slice.ensures (c.in_ok-block.ensures {u = tt}) c.loop-arm.invariant.0,
  grind (arith, choices_at),
)

pub block-returns : goal.block-returns
block-returns t c = block_end (statements c.args.body.now) c.depth-depth.result c.args.self.now c.statements.new.self c.leave.new.self c.depth-depth.ensures (c.in_ok-statements.ensures {u = tt}) c.leave.ensures

pub statements-loop-s-preserved : goal.statements-loop-s-preserved
statements-loop-s-preserved t c = (
  stas_next c.args.body.now c.loop-s.s-index c.s-item.result c.loop-s.self c.statement.new.self _ c.loop-s-test.true c.s-item.is (c.in_ok-statement.ensures {u = tt}) c.loop-s.invariant.0,
  grind (arith, statements_at),
)
