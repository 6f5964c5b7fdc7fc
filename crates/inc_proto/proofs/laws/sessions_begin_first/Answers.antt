use Rattle.inc_proto.specs.EventLaws.{unbegun_none}
use Rattle.inc_proto.proofs.laws.sessions_begin_first.Goals as goal

pub returns : goal.returns
returns c = unbegun_none
