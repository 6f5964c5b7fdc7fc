use Rattle.std.proofs.Common.{take}
use Rattle.std.specs.List.{All}
use Rattle.rs_object.specs.Grammar.{InGrammar}
use Rattle.rs_build.specs.Made.{AreObjectsOf}
use Rattle.rs_build.proofs.made.objects_of.Given as goal

abbrev pub invariant-loop-value : goal.invariant-loop-value
invariant-loop-value l = record {
  objects : AreObjectsOf (take l.value-index l.values) l.objects;
  grammar : All InGrammar l.objects;
}
