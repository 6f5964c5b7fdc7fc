use Rattle.inc_proto.specs.LeadLaws.{leads_before, leads_sound}
use Rattle.inc_proto.proofs.laws.histories_lead_on.Goals as goal

pub returns : goal.returns
returns c = record { before = λ later earlier p. leads_before later earlier p.state p.leads; sound = leads_sound }
