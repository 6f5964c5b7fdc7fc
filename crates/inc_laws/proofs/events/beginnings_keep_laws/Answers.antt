use Rattle.inc_laws.proofs.Begins.{begin_keeps}
use Rattle.inc_laws.proofs.events.beginnings_keep_laws.Goals as goal

pub returns : goal.returns
returns c = λ files events F job l. begin_keeps files events F job l
