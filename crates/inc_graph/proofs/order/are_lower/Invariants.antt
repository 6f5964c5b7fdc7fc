use Rattle.std.proofs.Common.{◌≡◌, ℕ, ◌<◌, drop, length}
use Rattle.std.specs.Prelude.{slice_index}
use Rattle.inc_graph.specs.Order.{are_lower}
use Rattle.inc_graph.proofs.order.are_lower.Given as goal

abbrev pub invariant-loop-read : goal.invariant-loop-read
invariant-loop-read l = record {
  rest : are_lower l.nodes l.kind (drop l.read-index l.reads) ≡ are_lower l.nodes l.kind l.reads;
  within : (k : ℕ) → k < l.read-index → slice_index l.reads k < length l.nodes;
}
