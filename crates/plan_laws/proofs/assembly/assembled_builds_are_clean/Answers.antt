use Rattle.std.proofs.Common.{refl}
use Rattle.plan_laws.proofs.Whole.{fault_same, text_same, tree_same}
use Rattle.plan_laws.proofs.assembly.assembled_builds_are_clean.Goals as goal

pub returns-clause-tree : goal.returns-clause-tree
returns-clause-tree c setting text krate values built has fits give = tree_same c.texts_are_read.ensures.text c.trees_are_tidy.ensures.names c.trees_are_tidy.ensures.tidy c.texts_are_read.ensures.parsed c.items_parse_again.ensures.again c.objects_differ.ensures setting text krate has fits values give built

pub returns-clause-fault : goal.returns-clause-fault
returns-clause-fault c setting text fault built is fits = fault_same c.texts_are_read.ensures.text setting text fault is fits built

pub returns-clause-text : goal.returns-clause-text
returns-clause-text c setting text built rooted = text_same c.texts_are_read.ensures.text c.trees_are_tidy.ensures.names c.trees_are_tidy.ensures.tidy c.texts_are_read.ensures.parsed c.items_parse_again.ensures.again c.objects_differ.ensures setting text rooted built

pub returns-clause-clean : goal.returns-clause-clean
returns-clause-clean c setting text built rooted assembled = (built, (text_same c.texts_are_read.ensures.text c.trees_are_tidy.ensures.names c.trees_are_tidy.ensures.tidy c.texts_are_read.ensures.parsed c.items_parse_again.ensures.again c.objects_differ.ensures setting text rooted built).0 assembled, refl)
