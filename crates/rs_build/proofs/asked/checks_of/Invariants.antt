use Rattle.std.proofs.Common.{◌≡◌, map, take}
use Rattle.plan_laws.specs.Assembled.{check_query}
use Rattle.rs_build.proofs.asked.checks_of.Given as goal

abbrev pub invariant-loop-item : goal.invariant-loop-item
invariant-loop-item l = l.queries ≡ map check_query (take l.item-index l.item-items)
