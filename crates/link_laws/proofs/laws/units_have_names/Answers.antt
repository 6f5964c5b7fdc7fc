use Rattle.link_laws.proofs.Makes.{built_makes}
use Rattle.link_laws.proofs.Names.{units_differ, units_named}
use Rattle.link_laws.proofs.laws.units_have_names.Goals as goal

pub returns-clause-names : goal.returns-clause-names
returns-clause-names c bytes level compiled b is built =
    units_named c.trees_are_tidy.ensures.names level b (built_makes c.texts_are_read.ensures.text c.trees_are_tidy.ensures.tidy bytes level compiled b is built)

pub returns-clause-differ : goal.returns-clause-differ
returns-clause-differ c bytes level compiled b is built =
    units_differ c.trees_are_tidy.ensures.names level b (built_makes c.texts_are_read.ensures.text c.trees_are_tidy.ensures.tidy bytes level compiled b is built)
