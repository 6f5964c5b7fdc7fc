use Rattle.std.proofs.Common.{ap, ◌∙◌}
use Rattle.rs_value.specs.Chains.{also, either}
use Rattle.rs_value.specs.Value.{and_then, arithmetic}
use Rattle.rs_value.proofs.Forms.{left_more, left_by, chain_more, all_more, any_more}
use Rattle.rs_value.proofs.value.Values.+value.Goals as goal

pub call-loop-e-preserved : goal.call-loop-e-preserved
call-loop-e-preserved t c = left_more c.args.args.now c.loop-e.e-index c.e-item.result c.loop-e.self c.expression-skipped.new.self _ c.loop-e-test.true c.e-item.is c.expression-skipped.ensures.rest c.loop-e.invariant

pub chain-loop-op-preserved : goal.chain-loop-op-preserved
chain-loop-op-preserved t c = (
  chain_more c.args.more.now c.loop-op.op-index c.loop-op-item.result c.loop-op.self c.expression-next.new.self c.loop-op.so_far c.combine-so_far.result _
      c.loop-op-test.true c.loop-op-item.is c.expression-next.ensures.rest
      (c.combine-so_far.ensures ∙ ap (λ v. and_then c.loop-op.so_far (λ x. and_then v (arithmetic c.loop-op-item.result.0 x))) c.expression-next.ensures.value) c.loop-op.invariant.0,
  left_by c.args.more.now c.loop-op.op-index c.loop-op-item.result c.loop-op.self c.expression-next.new.self _ c.loop-op-test.true c.loop-op-item.is c.expression-next.ensures.rest c.loop-op.invariant.1,
)

pub all-loop-e-preserved : goal.all-loop-e-preserved
all-loop-e-preserved t c = (
  all_more c.args.parts.now c.loop-e.e-index c.e-item.result c.loop-e.self c.expression-next.new.self c.loop-e.so_far c.also-so_far.result _
      c.loop-e-test.true c.e-item.is c.expression-next.ensures.rest (c.also-so_far.ensures ∙ ap (also c.loop-e.so_far) c.expression-next.ensures.value) c.loop-e.invariant.0,
  left_more c.args.parts.now c.loop-e.e-index c.e-item.result c.loop-e.self c.expression-next.new.self _ c.loop-e-test.true c.e-item.is c.expression-next.ensures.rest c.loop-e.invariant.1,
)

pub any-loop-e-preserved : goal.any-loop-e-preserved
any-loop-e-preserved t c = (
  any_more c.args.parts.now c.loop-e.e-index c.e-item.result c.loop-e.self c.expression-next.new.self c.loop-e.so_far c.either-so_far.result _
      c.loop-e-test.true c.e-item.is c.expression-next.ensures.rest (c.either-so_far.ensures ∙ ap (either c.loop-e.so_far) c.expression-next.ensures.value) c.loop-e.invariant.0,
  left_more c.args.parts.now c.loop-e.e-index c.e-item.result c.loop-e.self c.expression-next.new.self _ c.loop-e-test.true c.e-item.is c.expression-next.ensures.rest c.loop-e.invariant.1,
)
