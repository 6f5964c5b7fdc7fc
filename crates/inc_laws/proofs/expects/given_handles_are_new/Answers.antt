use Rattle.inc_laws.proofs.Answered.{new_opened, new_made}
use Rattle.inc_laws.proofs.expects.given_handles_are_new.Goals as goal

pub returns-clause-opened : goal.returns-clause-opened
returns-clause-opened c = new_opened

pub returns-clause-made : goal.returns-clause-made
returns-clause-made c = new_made
