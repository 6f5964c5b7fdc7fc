use Rattle.plan_laws.proofs.Rooted.{roots_given}
use Rattle.plan_laws.proofs.assembly.roots_are_valued.Goals as goal

pub returns : goal.returns
returns c setting text krate values has fits are clean =
    roots_given c.texts_are_read.ensures.text c.trees_are_tidy.ensures.names c.trees_are_tidy.ensures.tidy c.texts_are_read.ensures.parsed c.items_parse_again.ensures.again setting text krate has fits values are clean
    c.search_is_exact.ensures.roots c.members_are_reached.ensures.members c.members_are_reached.ensures.once c.members_are_reached.ensures.none
