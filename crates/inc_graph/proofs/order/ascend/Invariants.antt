use Rattle.std.proofs.Common.{◌≡◌, None, drop}
use Rattle.std.specs.Option.{option_copied}
use Rattle.inc_graph.specs.Order.{ascends, is_node_below}
use Rattle.inc_graph.proofs.order.ascend.Given as goal

abbrev pub invariant-loop-node : goal.invariant-loop-node
invariant-loop-node l = ascends is_node_below (option_copied l.before) (drop l.node-index l.nodes) ≡ ascends is_node_below None l.nodes
