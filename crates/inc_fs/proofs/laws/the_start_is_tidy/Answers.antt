use Rattle.inc_fs.specs.Tidy.{start_tidy}
use Rattle.inc_fs.proofs.laws.the_start_is_tidy.Goals as goal

pub returns : goal.returns
returns c = start_tidy
