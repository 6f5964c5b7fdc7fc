use Rattle.plan_laws.proofs.Items.{item_given, item_read}
use Rattle.plan_laws.proofs.laws.items_are_valued.Goals as goal

pub returns-clause-form : goal.returns-clause-form
returns-clause-form c setting text krate p has it = item_given c.texts_are_read.ensures.text c.trees_are_tidy.ensures.tidy setting text krate has p it

pub returns-clause-read : goal.returns-clause-read
returns-clause-read c setting text krate p has it = item_read c.texts_are_read.ensures.text c.trees_are_tidy.ensures.tidy setting text krate has p it c.texts_are_read.ensures.parsed c.items_parse_again.ensures.again
