use Rattle.plan_laws.proofs.Constants.{constant_back, constant_given}
use Rattle.plan_laws.proofs.outcomes.constants_are_valued.Goals as goal

pub returns-clause-form : goal.returns-clause-form
returns-clause-form c setting text krate p values value has items it are constant is =
    constant_given c.texts_are_read.ensures.text c.trees_are_tidy.ensures.names c.trees_are_tidy.ensures.tidy c.texts_are_read.ensures.parsed c.items_parse_again.ensures.again setting text krate has items p it values are value constant is

pub returns-clause-read : goal.returns-clause-read
returns-clause-read c = constant_back
