use Rattle.plan_laws.proofs.Index.{tidy_tree}
use Rattle.plan_laws.proofs.Usable.{usable}
use Rattle.plan_laws.proofs.assembly.constants_have_values.Goals as goal

pub returns : goal.returns
returns c text krate values at v is are clean has = usable krate (tidy_tree c.texts_are_read.ensures.text c.trees_are_tidy.ensures.tidy text krate is) values are clean at v has
