use Rattle.inc_proto.specs.LegalLaws.{legal_before, legal_possible, allowed_running}
use Rattle.inc_proto.proofs.legal_laws.legal_histories_lead_on.Goals as goal

pub returns : goal.returns
returns c = record { before = legal_before; possible = legal_possible; running = allowed_running }
