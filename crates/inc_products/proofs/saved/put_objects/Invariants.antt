use Rattle.std.proofs.Common.{◌≡◌, drop}
use Rattle.inc_products.specs.Saved.{value_of, with_objects}
use Rattle.inc_products.proofs.saved.put_objects.Given as goal

abbrev pub invariant-loop-node : goal.invariant-loop-node
invariant-loop-node l = record {
  counted : l.at ≡ l.node-index;
  rest : with_objects (value_of l.c) l.at (drop l.node-index l.nodes) l.files ≡ with_objects (value_of l.c) 0 l.nodes l.initial.files;
}
