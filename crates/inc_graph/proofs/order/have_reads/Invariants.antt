use Rattle.std.proofs.Common.{◌≡◌, ℕ, ◌+◌, ◌<◌, drop, length}
use Rattle.std.specs.Prelude.{slice_index}
use Rattle.inc_graph.specs.Order.{have_reads}
use Rattle.inc_graph.proofs.order.have_reads.Given as goal

abbrev pub invariant-loop-node : goal.invariant-loop-node
invariant-loop-node l = record {
  long : length l.stamps.items ≡ length l.nodes;
  counted : l.stamp ≡ l.node-index;
  older : (q : ℕ) → slice_index l.stamps.items q < l.stamp + 1;
  rest : have_reads l.nodes (drop l.node-index l.nodes) ≡ have_reads l.nodes l.nodes;
}
