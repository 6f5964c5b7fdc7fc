use Rattle.plan_laws.proofs.Used.{dead_given}
use Rattle.plan_laws.proofs.laws.dead_functions_are_valued.Goals as goal

pub returns : goal.returns
returns c = dead_given c.texts_are_read.ensures.text c.trees_are_tidy.ensures.names c.trees_are_tidy.ensures.tidy c.texts_are_read.ensures.parsed c.items_parse_again.ensures.again
