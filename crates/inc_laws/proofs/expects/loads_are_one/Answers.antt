use Rattle.inc_laws.proofs.Latest.{loaded_is_one}
use Rattle.inc_laws.proofs.expects.loads_are_one.Goals as goal

pub returns : goal.returns
returns c = loaded_is_one
