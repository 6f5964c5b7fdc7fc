use Rattle.inc_plan.specs.PlanLaws.{splits, first_step}
use Rattle.inc_plan.proofs.laws.plans_are_followed.Goals as goal

pub returns-clause-parts : goal.returns-clause-parts
returns-clause-parts c = λ first next steps follows. splits first next steps follows

pub returns-clause-first : goal.returns-clause-first
returns-clause-first c = λ op by steps follows. first_step op by steps follows
