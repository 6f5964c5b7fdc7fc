use Rattle.inc_engine.specs.BuildLaws.{before, before-nothing}
use Rattle.inc_engine.proofs.laws.builds_follow.Goals as goal

pub returns-clause-nothing : goal.returns-clause-nothing
returns-clause-nothing c = before-nothing

pub returns-clause-another : goal.returns-clause-another
returns-clause-another c = before
