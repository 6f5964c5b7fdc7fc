use Rattle.std.proofs.Common.{◌≡◌, drop}
use Rattle.inc_products.specs.declared.part.Part.TheVariants as part
use Rattle.inc_products.specs.Saved.{with_objects}
use Rattle.inc_products.proofs.saved.put_object_parts.Given as goal

abbrev pub invariant-loop-node : goal.invariant-loop-node
invariant-loop-node l = record {
  counted : l.at ≡ l.node-index;
  rest : with_objects part.Object l.at (drop l.node-index l.nodes) l.parts ≡ with_objects part.Object 0 l.nodes l.initial.parts;
}
