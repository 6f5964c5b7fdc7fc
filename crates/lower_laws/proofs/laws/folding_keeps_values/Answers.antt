use Rattle.lower_laws.proofs.Kept.{worth_kept}
use Rattle.lower_laws.proofs.laws.folding_keeps_values.Goals as goal

pub returns : goal.returns
returns c = worth_kept
