use Rattle.plan_laws.proofs.Used.{members_formed, members_given, members_read}
use Rattle.plan_laws.proofs.laws.members_are_valued.Goals as goal

pub returns-clause-form : goal.returns-clause-form
returns-clause-form c setting text krate unit has fits = members_given c.texts_are_read.ensures.text c.trees_are_tidy.ensures.names c.trees_are_tidy.ensures.tidy c.texts_are_read.ensures.parsed c.items_parse_again.ensures.again setting text krate has fits unit

pub returns-clause-read : goal.returns-clause-read
returns-clause-read c setting text krate unit has fits = members_read c.texts_are_read.ensures.text c.trees_are_tidy.ensures.names c.trees_are_tidy.ensures.tidy c.texts_are_read.ensures.parsed c.items_parse_again.ensures.again setting text krate has fits c.members_are_reached.ensures.once unit

pub returns-clause-clean : goal.returns-clause-clean
returns-clause-clean c = members_formed
