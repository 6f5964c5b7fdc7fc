use Rattle.lower_laws.proofs.Kept.{folded_known, known_folded}
use Rattle.lower_laws.proofs.Pushing.{folded_pushed}
use Rattle.lower_laws.proofs.laws.values_are_folded.Goals as goal

pub returns-clause-only : goal.returns-clause-only
returns-clause-only c = folded_known

pub returns-clause-each : goal.returns-clause-each
returns-clause-each c = known_folded

pub returns-clause-pushed : goal.returns-clause-pushed
returns-clause-pushed c = folded_pushed
