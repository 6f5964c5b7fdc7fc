use Rattle.std.proofs.Common.{◌≡◌, [], None, Some, arith, subst, sym}
use Rattle.inc_products.specs.Starts.{IsWell}
use Rattle.inc_products.specs.Walks.{AreWell, IsStep}
use Rattle.inc_products.proofs.Walking.{empty_is}
use Rattle.inc_products.proofs.walk.walk.Goals as goal

pub returns-in-Damaged : goal.returns-in-Damaged
returns-in-Damaged c = c.each.invariant.leads (Some c.in-Damaged.name) (subst (IsStep (IsWell c.args.want.now c.args.nodes.now) c.each.demands.now c.each.found.now) c.in-Damaged.is c.in_ok-name.ensures)

pub each-preserved : goal.each-preserved
each-preserved c =
    let on = subst (IsStep (IsWell c.args.want.now c.args.nodes.now) c.each.demands.now c.each.found.now) c.in-Rest.is c.in_ok-name.ensures in
    record { leads = λ o found. c.each.invariant.leads o (on.answer o found); demands = on.parts_ordered; found = on.files_ordered }

pub returns : goal.returns
returns c =
    let Well = IsWell c.args.want.now c.args.nodes.now in
    let demands : c.each.demands.now ≡ [] = empty_is c.each.demands.now (grind arith) in
    let found : c.each.found.now ≡ [] = empty_is c.each.found.now (grind arith) in
    c.each.invariant.leads None (subst (λ a. AreWell Well a c.each.found.now) (sym demands) (subst (λ b. AreWell Well [] b) (sym found) tt))
