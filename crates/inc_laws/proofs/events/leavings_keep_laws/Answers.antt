use Rattle.inc_laws.proofs.Lasting.{leaving_keeps}
use Rattle.inc_laws.proofs.events.leavings_keep_laws.Goals as goal

pub returns : goal.returns
returns c = λ files events F G who cut during sound l may is. leaving_keeps files events F l sound.tidy who cut during G may is
