use Rattle.rs_grammar.proofs.Decided.{one_tree, tree_faultless, one_refusal}
use Rattle.rs_grammar.proofs.laws.answers_are_one.Goals as goal

pub returns-clause-tree : goal.returns-clause-tree
returns-clause-tree c = one_tree

pub returns-clause-faultless : goal.returns-clause-faultless
returns-clause-faultless c = tree_faultless

pub returns-clause-fault : goal.returns-clause-fault
returns-clause-fault c = one_refusal
