use Rattle.std.proofs.Common.{[], ◌∷◌, ◌++◌, sym, ◌∙◌}
use Rattle.std.specs.Prelude.{filter}
use Rattle.rs_units.specs.Units.{has_own}
use Rattle.rs_units.proofs.Own.{units_more}
use Rattle.rs_units.proofs.owners.units.Goals as goal

pub loop-module-init : goal.loop-module-init
loop-module-init c =
    c.in_ok-push_if.ensures (has_own c.as_slice.result.now) c.in_ok-owners.ensures
    ∙ (λ j. c.new-units.ensures j ++ filter (has_own (c.as_slice.ensures.value j)) ([] ∷ []))

pub loop-module-preserved : goal.loop-module-preserved
loop-module-preserved c =
    let m = c.module-item.result in
    c.in_ok-push_if-2.ensures (has_own c.as_slice.result.now) c.in_ok-owners.ensures
    ∙ (λ j. c.loop-module.invariant j ++ filter (has_own (c.as_slice.ensures.value j)) (c.as_slice-in-loop-module.ensures.value j ∷ []))
    ∙ sym (units_more (has_own c.args.index.now.items) c.as_slice-module-items.result.now c.loop-module.module-index m c.loop-module-test.true c.module-item.is)
