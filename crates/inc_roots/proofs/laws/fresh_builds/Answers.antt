use Rattle.inc_roots.proofs.Fresh.{fresh_ticks, highest}
use Rattle.inc_roots.proofs.laws.fresh_builds.Goals as goal

pub returns-clause-highest : goal.returns-clause-highest
returns-clause-highest c = highest

pub returns-clause-ticks : goal.returns-clause-ticks
returns-clause-ticks c = fresh_ticks
