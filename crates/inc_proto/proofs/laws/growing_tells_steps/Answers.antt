use Rattle.inc_proto.specs.GrowthLaws.{steps_of_whole}
use Rattle.inc_proto.specs.Leads.{IsPossible}
use Rattle.inc_proto.proofs.laws.growing_tells_steps.Goals as goal

pub returns : goal.returns
returns c = λ own who job steps old new its g. steps_of_whole IsPossible own who its job steps old new g
