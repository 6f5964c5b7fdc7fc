use Rattle.inc_laws.proofs.Answered.{listing_there, linking_there}
use Rattle.inc_laws.proofs.expects.held_directories_are_found.Goals as goal

pub returns-clause-listed : goal.returns-clause-listed
returns-clause-listed c = listing_there

pub returns-clause-linked : goal.returns-clause-linked
returns-clause-linked c = linking_there
