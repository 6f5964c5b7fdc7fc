use Rattle.inc_laws.proofs.Lasting.{event_keeps, laws_hold}
use Rattle.inc_laws.proofs.events.legal_histories_keep_laws.Goals as goal

pub returns : goal.returns
returns c = record { event = λ files events F G event sound l allowed is. event_keeps files events F event G sound l allowed is; state = laws_hold }
