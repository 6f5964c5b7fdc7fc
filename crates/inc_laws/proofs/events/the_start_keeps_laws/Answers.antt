use Rattle.inc_laws.proofs.Starts.{start_laws}
use Rattle.inc_laws.proofs.events.the_start_keeps_laws.Goals as goal

pub returns : goal.returns
returns c = start_laws
