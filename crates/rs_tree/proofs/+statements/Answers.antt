use Rattle.std.proofs.Common.{arith}
use Rattle.rs_tree.proofs.Weights.{arms_below, other_below}
use Rattle.rs_tree.proofs.+statements.Goals as goal

pub tree::Stmt::copy-arms-requires : goal.tree::Stmt::copy-arms-requires
tree::Stmt::copy-arms-requires t c = (let below = arms_below c.args.self.now c.in-If.all c.as_slice-in-If.result.now c.in-If.other c.in-If.is c.as_slice-in-If.ensures in omega (arith, below, c.decreases), tt)

pub tree::Stmt::copy-otherwise-requires : goal.tree::Stmt::copy-otherwise-requires
tree::Stmt::copy-otherwise-requires t c = (let below = other_below c.args.self.now c.in-If.all c.in-If.other c.in-If.is in omega (arith, below, c.decreases), tt)
