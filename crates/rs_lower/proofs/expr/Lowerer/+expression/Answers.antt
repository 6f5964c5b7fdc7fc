use Rattle.std.proofs.Common.{◌≡◌, ◌-◌, ◌∷◌, [], List, length, take, drop, ap, ◌∙◌, arith}
use Rattle.rs_tree.specs.declared.ir.Instr.TheVariants.{Plain, Jump}
use Rattle.rs_tree.specs.declared.tree.Expr.{Expr}
use Rattle.rs_tree.specs.Plain.{exp, expressions}
use Rattle.rs_lower.specs.declared.expr.Lowerer.{Lowerer}
use Rattle.rs_lower.specs.Code.{arith_code, jump_code}
use Rattle.rs_lower.specs.Counts.{labels_all}
use Rattle.rs_lower.specs.State.{put, with_exp, outcome_of}
use Rattle.rs_lower.proofs.Outcomes.{chained_next, conjoined_next, conjoined_begins}
use Rattle.rs_lower.proofs.Steps.{behind, operands_next, operands_lighter, operands_fit, exps_fit, exps_lighter, exps_next, parts_next, chain_begins, first_and_rest}
use Rattle.rs_lower.proofs.expr.Lowerer.+expression.Goals as goal

pub arguments-loop-e-preserved : goal.arguments-loop-e-preserved
arguments-loop-e-preserved t c =
    let step = c.in_ok-_fixed.ensures.lowered in (
      exps_next c.args.args.now c.loop-e.e-index c.e-item.result c.loop-e.self c.expression.new.self _ c.loop-e-test.true c.e-item.is step c.loop-e.invariant.0,
      exps_lighter c.args.args.now c.loop-e.e-index c.e-item.result _ c.loop-e-test.true c.e-item.is c.loop-e.invariant.1,
      exps_fit c.args.args.now c.loop-e.e-index c.e-item.result c.loop-e.self c.expression.new.self 0 c.loop-e-test.true c.e-item.is (ap (λ (x : Lowerer). x.labels) step) c.loop-e.invariant.2,
    )

pub arithmetic-operands-requires : goal.arithmetic-operands-requires
arithmetic-operands-requires t c = (omega (arith, c.decreases), omega (arith, c.requires, behind (exp c.args.first.now) c.args.self.now c.expression.new.self c.in_ok-first.ensures.lowered))

pub comparison-expression-requires-2 : goal.comparison-expression-requires-2
comparison-expression-requires-2 t c = (omega (arith, c.decreases), omega (arith, c.requires, behind (exp c.args.a.now) c.args.self.now c.expression.new.self c.in_ok-left.ensures.lowered))

pub operands-loop-op-preserved : goal.operands-loop-op-preserved
operands-loop-op-preserved t c =
    let step : c.push.new.self ≡ put (Plain (arith_code c.loop-op-item.result.0) ∷ []) (with_exp (exp c.loop-op-item.result.1) c.loop-op.self) =
    c.in_ok-push.ensures {u = tt} ∙ (λ j. put (Plain (c.arith_code.ensures j) ∷ []) (c.in_ok-next.ensures.lowered j)) in (
      operands_next c.args.more.now c.loop-op.op-index c.loop-op-item.result c.loop-op.self c.push.new.self _ c.loop-op-test.true c.loop-op-item.is step c.loop-op.invariant.0,
      operands_lighter c.args.more.now c.loop-op.op-index c.loop-op-item.result _ c.loop-op-test.true c.loop-op-item.is c.loop-op.invariant.1,
      operands_fit c.args.more.now c.loop-op.op-index c.loop-op-item.result c.loop-op.self c.push.new.self c.loop-op-test.true c.loop-op-item.is step c.loop-op.invariant.2,
      chained_next c.args.more.now c.loop-op.op-index c.loop-op-item.result c.loop-op.self c.push.new.self c.loop-op.fixed c.in_ok-next.next c.combine-fixed.result _ c.loop-op-test.true c.loop-op-item.is step
          c.in_ok-next.ensures.fixed c.combine-fixed.ensures c.loop-op.invariant.3,
    )

pub parts-fresh-decided-requires-in-len1-up : goal.parts-fresh-decided-requires-in-len1-up
parts-fresh-decided-requires-in-len1-up t c =
    omega (
      arith,
      c.requires,
      behind (exp c.first-item.result) c.args.self.now c.expression.new.self c.in_ok-fixed-in-len1-up.ensures.lowered,
      ap (λ ps. labels_all (expressions ps)) (first_and_rest c.args.parts.now c.first-item.result c.in-len1-up.len_at_least c.first-item.is),
    )

pub parts-loop-e-init : goal.parts-loop-e-init
parts-loop-e-init t c =
    let more : List Expr = take (length c.args.parts.now - 1) (drop 1 c.args.parts.now) in
    let are : c.args.parts.now ≡ c.first-item.result ∷ more = first_and_rest c.args.parts.now c.first-item.result c.in-len1-up.len_at_least c.first-item.is in
    let step = c.in_ok-fixed-in-len1-up.ensures.lowered in
    let counted = c.fresh-decided-in-len1-up.ensures.counted in
    let begun =
    chain_begins c.args.either c.args.parts.now c.first-item.result more c.fresh-decided-in-len1-up.result c.args.self.now c.expression.new.self c.fresh-decided-in-len1-up.new.self are step
    c.fresh-decided-in-len1-up.ensures.number counted c.requires in (
      begun.0,
      begun.1,
      begun.2,
      conjoined_begins c.args.either c.args.parts.now c.first-item.result more c.args.self.now c.expression.new.self c.fresh-decided-in-len1-up.new.self c.in_ok-fixed-in-len1-up.fixed are step counted
          c.in_ok-fixed-in-len1-up.ensures.fixed,
    )

pub parts-loop-e-preserved : goal.parts-loop-e-preserved
parts-loop-e-preserved t c =
    let more : List Expr = take (length c.args.parts.now - 1) (drop 1 c.args.parts.now) in
    let at = c.fresh-decided-in-len1-up.result in
    let jumped : c.push.new.self ≡ put (Jump (jump_code c.args.either) at ∷ []) c.loop-e.self = c.in_ok-push-in-len1-up.ensures {u = tt} ∙ (λ j. put (Jump (c.jump_code.ensures j) at ∷ []) c.loop-e.self) in
    let step : c.expression-in-loop-e.new.self ≡ with_exp (exp c.e-item.result) (put (Jump (jump_code c.args.either) at ∷ []) c.loop-e.self) =
    c.in_ok-next-in-len1-up.ensures.lowered ∙ ap (with_exp (exp c.e-item.result)) jumped in
    let known : c.in_ok-next-in-len1-up.next ≡ outcome_of (put (Jump (jump_code c.args.either) at ∷ []) c.loop-e.self) (exp c.e-item.result) =
    c.in_ok-next-in-len1-up.ensures.fixed ∙ ap (λ x. outcome_of x (exp c.e-item.result)) jumped in (
      parts_next c.args.either at more c.loop-e.e-index c.e-item.result c.loop-e.self c.expression-in-loop-e.new.self _ c.loop-e-test.true c.e-item.is step c.loop-e.invariant.0,
      exps_lighter more c.loop-e.e-index c.e-item.result _ c.loop-e-test.true c.e-item.is c.loop-e.invariant.1,
      exps_fit more c.loop-e.e-index c.e-item.result c.loop-e.self c.expression-in-loop-e.new.self 1 c.loop-e-test.true c.e-item.is (ap (λ (x : Lowerer). x.labels) step) c.loop-e.invariant.2,
      conjoined_next c.args.either more c.loop-e.e-index c.e-item.result (Jump (jump_code c.args.either) at ∷ []) c.loop-e.self c.expression-in-loop-e.new.self c.loop-e.fixed c.in_ok-next-in-len1-up.next
          c.also-fixed.result _ c.loop-e-test.true c.e-item.is step known c.also-fixed.ensures c.loop-e.invariant.3,
    )
