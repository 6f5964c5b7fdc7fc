use Rattle.plan_laws.proofs.Known.{check_whole}
use Rattle.plan_laws.proofs.outcomes.diagnostics_are_valued.Goals as goal

pub returns : goal.returns
returns c setting text krate p values has items it are fits =
    check_whole c.texts_are_read.ensures.text c.trees_are_tidy.ensures.names c.trees_are_tidy.ensures.tidy c.texts_are_read.ensures.parsed c.items_parse_again.ensures.again setting text krate has items values are fits p it
