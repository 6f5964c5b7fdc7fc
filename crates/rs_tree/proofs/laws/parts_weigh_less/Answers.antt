use Rattle.rs_tree.proofs.Weights.{expressions_weigh_more, statements_weigh_more}
use Rattle.rs_tree.proofs.laws.parts_weigh_less.Goals as goal

pub returns-clause-expressions : goal.returns-clause-expressions
returns-clause-expressions c = expressions_weigh_more

pub returns-clause-statements : goal.returns-clause-statements
returns-clause-statements c = statements_weigh_more
