use Rattle.plan_laws.proofs.Wrong.{wrong_same}
use Rattle.plan_laws.proofs.laws.wrongs_need_named_items.Goals as goal

pub returns : goal.returns
returns c = wrong_same
