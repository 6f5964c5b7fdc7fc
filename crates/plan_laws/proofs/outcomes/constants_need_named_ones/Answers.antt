use Rattle.plan_laws.proofs.Restricted.{value_same}
use Rattle.plan_laws.proofs.outcomes.constants_need_named_ones.Goals as goal

pub returns : goal.returns
returns c = value_same
