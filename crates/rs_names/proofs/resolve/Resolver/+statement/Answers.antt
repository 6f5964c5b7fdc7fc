use Rattle.std.proofs.Common.{arith}
use Rattle.rs_tree.specs.Equations.{choices_at}
use Rattle.rs_names.proofs.Bodies.{arm_step}
use Rattle.rs_names.proofs.resolve.Resolver.+statement.Goals as goal

pub choice-loop-arm-preserved : goal.choice-loop-arm-preserved
choice-loop-arm-preserved t c = (
  arm_step c.loop-arm.self c.expression.new.self c.block.new.self c.args.arms.now c.args.other.now c.loop-arm.arm-index c.arm-item.result c.as_slice.result.now _
      c.loop-arm-test.true c.arm-item.is c.loop-arm.invariant.0 (c.in_ok-expression.ensures {u = tt}) c.as_slice.ensures (c.in_ok-block.ensures {u = tt}),
  grind (arith, choices_at),
)
