use Rattle.rs_build.proofs.Anew.{all_made}
use Rattle.rs_build.proofs.laws.fresh_builds_make_all.Goals as goal

pub returns-clause-made : goal.returns-clause-made
returns-clause-made c = all_made c.fresh_builds.ensures.ticks c.plans_fit.ensures c.trees_are_tidy.ensures.names c.texts_are_read.ensures.text c.trees_are_tidy.ensures.tidy
