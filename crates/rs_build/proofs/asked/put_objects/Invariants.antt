use Rattle.std.proofs.Common.{◌≡◌, ◌++◌, map, take}
use Rattle.plan_laws.specs.Assembled.{object_query}
use Rattle.rs_build.proofs.asked.put_objects.Given as goal

abbrev pub invariant-loop-unit : goal.invariant-loop-unit
invariant-loop-unit l = l.queries ≡ l.fn.queries ++ map object_query (take l.unit-index l.units)
