use Rattle.lower_laws.proofs.Pushing.{unreduced_in, unreduced_stas}
use Rattle.lower_laws.proofs.laws.level_0_folds_nothing.Goals as goal

pub returns-clause-statements : goal.returns-clause-statements
returns-clause-statements c = unreduced_stas

pub returns-clause-end : goal.returns-clause-end
returns-clause-end c = unreduced_in
