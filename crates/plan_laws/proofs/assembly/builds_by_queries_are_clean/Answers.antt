use Rattle.plan_laws.proofs.Whole.{rooted}
use Rattle.plan_laws.proofs.assembly.builds_by_queries_are_clean.Goals as goal

pub returns-clause-whole : goal.returns-clause-whole
returns-clause-whole c setting text built fits = c.assembled_builds_are_clean.ensures.text setting text built (rooted setting text c.roots_are_valued.ensures fits)

pub returns-clause-clean : goal.returns-clause-clean
returns-clause-clean c setting text built fits = c.assembled_builds_are_clean.ensures.clean setting text built (rooted setting text c.roots_are_valued.ensures fits)
