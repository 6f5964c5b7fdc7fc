use Rattle.plan_laws.proofs.Lowering.{form_same}
use Rattle.plan_laws.proofs.laws.forms_need_named_items.Goals as goal

pub returns : goal.returns
returns c level found sigs other consts more item h k = form_same level sigs other consts more found item h k
