use Rattle.inc_laws.proofs.Answered.{new_pair, pair_range}
use Rattle.inc_laws.proofs.expects.drawn_names_are_new.Goals as goal

pub returns-clause-range : goal.returns-clause-range
returns-clause-range c = pair_range

pub returns-clause-new : goal.returns-clause-new
returns-clause-new c = new_pair
