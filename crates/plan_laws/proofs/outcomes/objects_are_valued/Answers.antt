use Rattle.plan_laws.proofs.Objects.{object_given}
use Rattle.plan_laws.proofs.outcomes.objects_are_valued.Goals as goal

pub returns : goal.returns
returns c setting text unit members places read = object_given setting text unit members places read
