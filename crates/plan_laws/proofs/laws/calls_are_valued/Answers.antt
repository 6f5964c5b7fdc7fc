use Rattle.plan_laws.proofs.Items.{calls_given}
use Rattle.plan_laws.proofs.laws.calls_are_valued.Goals as goal

pub returns : goal.returns
returns c setting text krate p has it = calls_given c.texts_are_read.ensures.text c.trees_are_tidy.ensures.tidy setting text krate has p it c.texts_are_read.ensures.parsed c.items_parse_again.ensures.again c.trees_are_tidy.ensures.names
