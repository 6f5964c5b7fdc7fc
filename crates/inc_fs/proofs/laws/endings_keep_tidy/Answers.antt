use Rattle.inc_fs.specs.Ending.{end_tidy}
use Rattle.inc_fs.proofs.laws.endings_keep_tidy.Goals as goal

pub returns : goal.returns
returns c = λ F who t. end_tidy F who t
