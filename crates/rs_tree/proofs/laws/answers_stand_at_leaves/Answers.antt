use Rattle.rs_tree.specs.LeafLaws.{answered_enough, answered_length, left_after, of_definition, of_expression, of_statement}
use Rattle.rs_tree.proofs.laws.answers_stand_at_leaves.Goals as goal

pub returns-clause-expression : goal.returns-clause-expression
returns-clause-expression g c = of_expression

pub returns-clause-statement : goal.returns-clause-statement
returns-clause-statement g c = of_statement

pub returns-clause-definition : goal.returns-clause-definition
returns-clause-definition g c = of_definition

pub returns-clause-count : goal.returns-clause-count
returns-clause-count g c = answered_length

pub returns-clause-enough : goal.returns-clause-enough
returns-clause-enough g c = answered_enough

pub returns-clause-left : goal.returns-clause-left
returns-clause-left g c = left_after
