use Rattle.std.proofs.Common.{◌≡◌, map, take}
use Rattle.rs_queries.specs.Known.{answered}
use Rattle.rs_queries.proofs.answered.all_answered.Given as goal

abbrev pub invariant-loop-one : goal.invariant-loop-one
invariant-loop-one l = l.all.items ≡ map (answered l.names) (take l.one-index l.placed)
