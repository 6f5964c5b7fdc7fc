use Rattle.inc_fs.specs.Ending.{end_facts}
use Rattle.inc_fs.proofs.laws.endings_free_their_own.Goals as goal

pub returns : goal.returns
returns c = λ F who t. end_facts F who t
