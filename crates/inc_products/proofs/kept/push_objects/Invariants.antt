use Rattle.std.proofs.Common.{◌≡◌, ◌++◌, drop}
use Rattle.inc_products.specs.Loads.{objects_from}
use Rattle.inc_products.proofs.kept.push_objects.Given as goal

abbrev pub invariant-loop-node : goal.invariant-loop-node
invariant-loop-node l = record {
  counted : l.at ≡ l.node-index;
  rest : l.values ++ objects_from l.set l.at (drop l.node-index l.nodes) ≡ l.initial.values ++ objects_from l.set 0 l.nodes;
}
