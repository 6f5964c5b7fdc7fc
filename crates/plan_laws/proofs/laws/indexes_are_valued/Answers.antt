use Rattle.plan_laws.proofs.Index.{fault_value, index_read, index_value}
use Rattle.plan_laws.proofs.laws.indexes_are_valued.Goals as goal

pub returns-clause-tree : goal.returns-clause-tree
returns-clause-tree c = index_value

pub returns-clause-fault : goal.returns-clause-fault
returns-clause-fault c = fault_value

pub returns-clause-read : goal.returns-clause-read
returns-clause-read c = index_read c.trees_are_tidy.ensures.names c.texts_are_read.ensures.text c.trees_are_tidy.ensures.tidy
