use Rattle.std.proofs.Common.{◌≡◌, map, take}
use Rattle.rs_queries.specs.Built.{stored}
use Rattle.rs_queries.proofs.output.all_stored.Given as goal

abbrev pub invariant-loop-object : goal.invariant-loop-object
invariant-loop-object l = l.all ≡ map stored (take l.object-index l.objects)
