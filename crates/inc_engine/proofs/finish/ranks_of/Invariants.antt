use Rattle.std.proofs.Common.{◌≡◌, ◌<◌, map, take, length}
use Rattle.std.specs.List.{AllByRecursion}
use Rattle.inc_engine.specs.Builds.{at}
use Rattle.inc_engine.specs.Marking.{asked}
use Rattle.inc_engine.proofs.finish.ranks_of.Given as goal

abbrev pub invariant-loop-done : goal.invariant-loop-done
invariant-loop-done l = record {
  are : map (at l.order) l.ranks.items ≡ asked (take l.done-index l.memo);
  within : AllByRecursion (λ i. i < length l.order) l.ranks.items;
}
