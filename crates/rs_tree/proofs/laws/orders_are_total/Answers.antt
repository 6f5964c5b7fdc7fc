use Rattle.std.proofs.Common.{refl}
use Rattle.rs_tree.proofs.Orders.{at_same, at_total, diag_same, diag_total, place_same, place_total}
use Rattle.rs_tree.proofs.laws.orders_are_total.Goals as goal

pub returns-clause-at : goal.returns-clause-at
returns-clause-at c = λ a b. refl

pub returns-clause-at_total : goal.returns-clause-at_total
returns-clause-at_total c = at_total

pub returns-clause-at_same : goal.returns-clause-at_same
returns-clause-at_same c = at_same

pub returns-clause-place : goal.returns-clause-place
returns-clause-place c = λ a b. refl

pub returns-clause-place_total : goal.returns-clause-place_total
returns-clause-place_total c = place_total

pub returns-clause-place_same : goal.returns-clause-place_same
returns-clause-place_same c = place_same

pub returns-clause-diag : goal.returns-clause-diag
returns-clause-diag c = λ a b. refl

pub returns-clause-diag_total : goal.returns-clause-diag_total
returns-clause-diag_total c = diag_total

pub returns-clause-diag_same : goal.returns-clause-diag_same
returns-clause-diag_same c = diag_same
