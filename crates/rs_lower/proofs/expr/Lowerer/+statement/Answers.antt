use Rattle.std.proofs.Common.{◌≡◌, ◌+◌, ◌-◌, ◌≤◌, ◌∷◌, [], List, length, take, drop, ap, ◌∙◌, arith, rules}
use Rattle.rs_tree.specs.declared.tree.Expr.{Expr}
use Rattle.rs_tree.specs.declared.tree.Stmt.{Stmt}
use Rattle.rs_tree.specs.declared.ir.Instr.TheVariants.{Jump, Label}
use Rattle.rs_tree.specs.Plain.{exp, statements, choices}
use Rattle.rs_lower.specs.declared.expr.Lowerer.{Lowerer}
use Rattle.rs_lower.specs.Counts.{places_all, places_arms, lets_all}
use Rattle.rs_lower.specs.State.{numbered, put, with_arm}
use Rattle.rs_lower.proofs.Blocks.{arm_fits, arms_fit, arms_hold, arms_lighter, arms_next, choice_begins, statements_fit, statements_hold, statements_lighter, statements_next}
use Rattle.rs_lower.proofs.Steps.{behind, first_and_rest}
use Rattle.rs_lower.proofs.expr.Lowerer.+statement.Goals as goal

pub arm-fresh-past-requires : goal.arm-fresh-past-requires
arm-fresh-past-requires t c = omega (arith, c.requires.labels, behind (exp c.args.cond.now) c.args.self.now c.value.new.self (c.in_ok-value.ensures {u = tt}))

pub arm-block-requires : goal.arm-block-requires
arm-block-requires t c =
    let step : c.push.new.self ≡ put (Jump 0x29 c.fresh-past.result ∷ []) (numbered 1 c.value.new.self) = c.in_ok-push.ensures {u = tt} ∙ ap (put (Jump 0x29 c.fresh-past.result ∷ [])) c.fresh-past.ensures.counted in
    let labels : c.push.new.self.labels + places_all (statements c.args.body.now) ≤ 65535 =
    omega (arith, c.requires.labels, ap (λ (x : Lowerer). x.labels) step, behind (exp c.args.cond.now) c.args.self.now c.value.new.self (c.in_ok-value.ensures {u = tt})) in
    let slots : c.push.new.self.slots + lets_all (statements c.args.body.now) ≤ 65535 =
    omega (arith, c.requires.slots, ap (λ (x : Lowerer). x.slots) step, ap (λ (x : Lowerer). x.slots) (c.in_ok-value.ensures {u = tt})) in
    search rules

pub choice-fresh-end-requires-in-len1-up : goal.choice-fresh-end-requires-in-len1-up
choice-fresh-end-requires-in-len1-up t c =
    omega (
      arith,
      c.requires.labels,
      arm_fits (exp c.first-item.result.0) (statements c.first-item.result.1) c.args.self.now c.arm.new.self (c.in_ok-past-in-len1-up.ensures.lowered ∙ ap (λ b. with_arm (exp c.first-item.result.0) (statements b) c.args.self.now) c.as_slice.ensures),
      ap (λ x. places_arms (choices x c.args.other.now)) (first_and_rest c.args.arms.now c.first-item.result c.in-len1-up.len_at_least c.first-item.is),
    )

pub choice-loop-arm-init : goal.choice-loop-arm-init
choice-loop-arm-init t c =
    choice_begins c.args.arms.now c.first-item.result _ c.args.other.now c.in_ok-past-in-len1-up.past c.fresh-end-in-len1-up.result c.args.self.now c.arm.new.self c.fresh-end-in-len1-up.new.self c.join.new.self
    (first_and_rest c.args.arms.now c.first-item.result c.in-len1-up.len_at_least c.first-item.is)
    (c.in_ok-past-in-len1-up.ensures.lowered ∙ ap (λ b. with_arm (exp c.first-item.result.0) (statements b) c.args.self.now) c.as_slice.ensures)
    c.in_ok-past-in-len1-up.ensures.number c.fresh-end-in-len1-up.ensures.number c.fresh-end-in-len1-up.ensures.counted (c.in_ok-join-in-len1-up.ensures {u = tt})
    c.requires.labels c.requires.slots

pub choice-loop-arm-preserved : goal.choice-loop-arm-preserved
choice-loop-arm-preserved t c =
    let more : List (Expr × List Stmt) = take (length c.args.arms.now - 1) (drop 1 c.args.arms.now) in
    let step : c.arm-in-loop-arm.new.self ≡ with_arm (exp c.arm-item.result.0) (statements c.arm-item.result.1) c.loop-arm.self =
    c.in_ok-past-in-len1-up-2.ensures.lowered ∙ ap (λ b. with_arm (exp c.arm-item.result.0) (statements b) c.loop-arm.self) c.as_slice-in-loop-arm.ensures in
    let joined : c.join-in-loop-arm.new.self ≡ put (Jump 0x28 c.fresh-end-in-len1-up.result ∷ Label c.in_ok-past-in-len1-up-2.past ∷ []) c.arm-in-loop-arm.new.self = c.in_ok-join-in-len1-up-2.ensures {u = tt} in (
      arms_next more c.args.other.now c.loop-arm.arm-index c.arm-item.result c.in_ok-past-in-len1-up-2.past c.fresh-end-in-len1-up.result c.loop-arm.self c.arm-in-loop-arm.new.self c.join-in-loop-arm.new.self _
          c.loop-arm-test.true c.arm-item.is step c.in_ok-past-in-len1-up-2.ensures.number joined c.loop-arm.invariant.0,
      arms_lighter more c.args.other.now c.loop-arm.arm-index c.arm-item.result _ c.loop-arm-test.true c.arm-item.is c.loop-arm.invariant.1,
      arms_fit more c.args.other.now c.loop-arm.arm-index c.arm-item.result c.loop-arm.self c.arm-in-loop-arm.new.self c.join-in-loop-arm.new.self c.loop-arm-test.true c.arm-item.is step
          (ap (λ (x : Lowerer). x.labels) joined) c.loop-arm.invariant.2,
      arms_hold more c.args.other.now c.loop-arm.arm-index c.arm-item.result c.loop-arm.self c.arm-in-loop-arm.new.self c.join-in-loop-arm.new.self c.loop-arm-test.true c.arm-item.is step
          (ap (λ (x : Lowerer). x.slots) joined) c.loop-arm.invariant.3,
    )

pub repetition-fresh-end-requires : goal.repetition-fresh-end-requires
repetition-fresh-end-requires t c =
    omega (
      arith,
      c.requires.labels,
      behind (exp c.args.cond.now) c.push.new.self c.value.new.self (c.in_ok-value.ensures {u = tt}),
      ap (λ (x : Lowerer). x.labels) (c.in_ok-push.ensures {u = tt}),
      ap (λ (x : Lowerer). x.labels) c.fresh-start.ensures.counted,
    )

pub repetition-block-requires : goal.repetition-block-requires
repetition-block-requires t c =
    let first : c.push.new.self ≡ put (Label c.fresh-start.result ∷ []) (numbered 1 c.args.self.now) = c.in_ok-push.ensures {u = tt} ∙ ap (put (Label c.fresh-start.result ∷ [])) c.fresh-start.ensures.counted in
    let step : c.push-2.new.self ≡ put (Jump 0x29 c.fresh-end.result ∷ []) (numbered 1 c.value.new.self) = c.in_ok-push-2.ensures {u = tt} ∙ ap (put (Jump 0x29 c.fresh-end.result ∷ [])) c.fresh-end.ensures.counted in
    let labels : c.push-2.new.self.labels + places_all (statements c.args.body.now) ≤ 65535 =
    omega (
      arith,
      c.requires.labels,
      ap (λ (x : Lowerer). x.labels) first,
      ap (λ (x : Lowerer). x.labels) step,
      behind (exp c.args.cond.now) c.push.new.self c.value.new.self (c.in_ok-value.ensures {u = tt}),
    ) in
    let slots : c.push-2.new.self.slots + lets_all (statements c.args.body.now) ≤ 65535 =
    omega (arith, c.requires.slots, ap (λ (x : Lowerer). x.slots) first, ap (λ (x : Lowerer). x.slots) step, ap (λ (x : Lowerer). x.slots) (c.in_ok-value.ensures {u = tt})) in
    search rules

pub statements-loop-s-preserved : goal.statements-loop-s-preserved
statements-loop-s-preserved t c =
    let step = c.in_ok-statement.ensures {u = tt} in (
      statements_next c.args.body.now c.loop-s.s-index c.s-item.result c.loop-s.self c.statement.new.self _ c.loop-s-test.true c.s-item.is step c.loop-s.invariant.0,
      statements_lighter c.args.body.now c.loop-s.s-index c.s-item.result _ c.loop-s-test.true c.s-item.is c.loop-s.invariant.1,
      statements_fit c.args.body.now c.loop-s.s-index c.s-item.result c.loop-s.self c.statement.new.self c.loop-s-test.true c.s-item.is step c.loop-s.invariant.2,
      statements_hold c.args.body.now c.loop-s.s-index c.s-item.result c.loop-s.self c.statement.new.self c.loop-s-test.true c.s-item.is step c.loop-s.invariant.3,
    )
