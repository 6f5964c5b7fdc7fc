use Rattle.rs_lower.proofs.Reducing.{fewer_places_all, labels_reduced, same_lets_all}
use Rattle.lower_laws.proofs.laws.folding_needs_no_more.Goals as goal

pub returns-clause-labels : goal.returns-clause-labels
returns-clause-labels c = labels_reduced

pub returns-clause-places : goal.returns-clause-places
returns-clause-places c = fewer_places_all

pub returns-clause-slots : goal.returns-clause-slots
returns-clause-slots c = same_lets_all
