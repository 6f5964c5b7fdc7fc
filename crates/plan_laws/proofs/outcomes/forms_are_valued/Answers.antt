use Rattle.plan_laws.proofs.Forms.{lowered_back}
use Rattle.plan_laws.proofs.Known.{form_whole}
use Rattle.plan_laws.proofs.outcomes.forms_are_valued.Goals as goal

pub returns-clause-form : goal.returns-clause-form
returns-clause-form c setting text krate p values has items it are fits have function right =
    form_whole c.texts_are_read.ensures.text c.trees_are_tidy.ensures.names c.trees_are_tidy.ensures.tidy c.texts_are_read.ensures.parsed c.items_parse_again.ensures.again setting text krate has items values are fits p it have function right

pub returns-clause-read : goal.returns-clause-read
returns-clause-read c level sigs consts a fits = lowered_back level a.1 sigs consts a.0 fits
