use Rattle.std.proofs.Common.{◌≡◌, take}
use Rattle.std.specs.List.{All}
use Rattle.inc_graph.specs.Graphs.{queries_of}
use Rattle.inc_engine.specs.Finish.{IsNodeOf}
use Rattle.inc_engine.proofs.finish.nodes_of.Given as goal

abbrev pub invariant-loop-q : goal.invariant-loop-q
invariant-loop-q l = record {
  queries_are : queries_of l.nodes ≡ take l.q-index l.order;
  nodes_are : All (IsNodeOf l.order l.memo) l.nodes;
}
