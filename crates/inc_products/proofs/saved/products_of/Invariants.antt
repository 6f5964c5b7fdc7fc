use Rattle.std.proofs.Common.{◌≡◌, ◌++◌, drop}
use Rattle.inc_products.specs.Saved.{products_from}
use Rattle.inc_products.proofs.saved.products_of.Given as goal

abbrev pub invariant-loop-node : goal.invariant-loop-node
invariant-loop-node l = record {
  counted : l.at ≡ l.node-index;
  rest : l.products ++ products_from l.at (drop l.node-index l.nodes) ≡ products_from 0 l.nodes;
}
