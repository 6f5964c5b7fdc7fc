use Rattle.inc_fs.specs.Steps.{step_changes}
use Rattle.inc_fs.proofs.laws.steps_keep_tidy.Goals as goal

pub returns : goal.returns
returns c = λ F G who op reply t s. (step_changes F who op reply G s).tidy t
