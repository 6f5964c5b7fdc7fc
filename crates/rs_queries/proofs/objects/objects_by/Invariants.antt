use Rattle.std.proofs.Common.{◌≡◌, take}
use Rattle.std.specs.Prelude.{All}
use Rattle.inc_base.specs.Meters.{raised}
use Rattle.rs_object.specs.Grammar.{InGrammar}
use Rattle.rs_queries.specs.Built.{objects_in}
use Rattle.rs_queries.proofs.objects.objects_by.Given as goal

abbrev pub invariant-loop-unit : goal.invariant-loop-unit
invariant-loop-unit l = record {
  made : l.objects ≡ objects_in l.graph.0 l.graph.1 l.forms (take l.unit-index l.units);
  grammar : All InGrammar l.objects;
  count : l.meter ≡ raised l.initial.meter l.unit-index;
}
