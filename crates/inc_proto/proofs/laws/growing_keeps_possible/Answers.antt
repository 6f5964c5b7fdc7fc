use Rattle.inc_proto.specs.GrowthLaws.{possible_after}
use Rattle.inc_proto.specs.Leads.{IsPossible}
use Rattle.inc_proto.proofs.laws.growing_keeps_possible.Goals as goal

pub returns : goal.returns
returns c = possible_after IsPossible
