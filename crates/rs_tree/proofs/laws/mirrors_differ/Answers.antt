use Rattle.rs_tree.proofs.Mirror.{body_seen, crate_seen, expr_seen, item_seen, placed_seen, stmt_seen}
use Rattle.rs_tree.proofs.laws.mirrors_differ.Goals as goal

pub returns-clause-expr : goal.returns-clause-expr
returns-clause-expr c = expr_seen

pub returns-clause-stmt : goal.returns-clause-stmt
returns-clause-stmt c = stmt_seen

pub returns-clause-body : goal.returns-clause-body
returns-clause-body c = body_seen

pub returns-clause-item : goal.returns-clause-item
returns-clause-item c = item_seen

pub returns-clause-placed : goal.returns-clause-placed
returns-clause-placed c = placed_seen

pub returns-clause-krate : goal.returns-clause-krate
returns-clause-krate c = crate_seen
