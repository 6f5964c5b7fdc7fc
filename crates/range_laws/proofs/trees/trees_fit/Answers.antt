use Rattle.range_laws.proofs.Fitting.{crate_fits, items_fit, text_fault_fits}
use Rattle.range_laws.proofs.Whole.{text_bounded}
use Rattle.range_laws.proofs.trees.trees_fit.Goals as goal

pub returns-clause-whole : goal.returns-clause-whole
returns-clause-whole c text krate short e = crate_fits text krate e (text_bounded c.texts_are_read.ensures.text text krate short e)

pub returns-clause-items : goal.returns-clause-items
returns-clause-items c text krate short e = items_fit c.texts_are_read.ensures.text c.lexed_tokens_are_lexed.ensures text krate short e

pub returns-clause-fault : goal.returns-clause-fault
returns-clause-fault c text fault short e = text_fault_fits c.texts_are_read.ensures.text text fault short e
