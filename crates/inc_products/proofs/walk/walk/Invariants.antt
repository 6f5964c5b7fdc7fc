use Rattle.std.proofs.Common.{ℕ, ◌+◌, List, Option, length}
use Rattle.inc_products.specs.Named.{AreOrdered}
use Rattle.inc_products.specs.Starts.{IsWell}
use Rattle.inc_products.specs.Walks.{IsAnswer}
use Rattle.inc_products.proofs.walk.walk.Given as goal

abbrev pub invariant-each : goal.invariant-each
invariant-each l = record {
  leads : (o : Option (List ℕ)) → IsAnswer (IsWell l.want l.nodes) l.demands l.found o → IsAnswer (IsWell l.want l.nodes) l.parts l.files o;
  demands : AreOrdered l.demands;
  found : AreOrdered l.found;
}

abbrev pub decreases-each : goal.decreases-each
decreases-each l = length l.demands + length l.found
