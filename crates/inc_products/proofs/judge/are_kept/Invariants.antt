use Rattle.std.proofs.Common.{◌≡◌, drop}
use Rattle.inc_products.specs.Loads.{are_kept_from}
use Rattle.inc_products.proofs.judge.are_kept.Given as goal

abbrev pub invariant-loop-node : goal.invariant-loop-node
invariant-loop-node l = record {
  counted : l.at ≡ l.node-index;
  same : are_kept_from 0 l.nodes l.values ≡ are_kept_from l.at (drop l.node-index l.nodes) l.rest;
}
