use Rattle.inc_fs.specs.Kinds.{step_kind}
use Rattle.inc_fs.proofs.laws.steps_are_answered_in_kind.Goals as goal

pub returns : goal.returns
returns c = record { step = λ F G who op chance reply s. s.step; kind = λ F G who op reply s. step_kind F who op reply G s }
