use Rattle.rs_names.proofs.Counted.{one_each}
use Rattle.rs_names.proofs.laws.answers_are_paths.Goals as goal

pub returns : goal.returns
returns c = one_each
