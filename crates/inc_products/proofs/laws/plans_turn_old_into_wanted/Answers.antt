use Rattle.inc_products.proofs.Planning.{plan_made, plan_sorted}
use Rattle.inc_products.proofs.laws.plans_turn_old_into_wanted.Goals as goal

pub returns-clause-turns : goal.returns-clause-turns
returns-clause-turns c = plan_made

pub returns-clause-ordered : goal.returns-clause-ordered
returns-clause-ordered c = plan_sorted
