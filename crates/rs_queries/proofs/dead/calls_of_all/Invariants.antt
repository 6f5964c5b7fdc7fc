use Rattle.std.proofs.Common.{◌≡◌, map, take}
use Rattle.rs_queries.specs.Diagnosed.{calls_of}
use Rattle.rs_queries.proofs.dead.calls_of_all.Given as goal

abbrev pub invariant-loop-one : goal.invariant-loop-one
invariant-loop-one l = l.calls ≡ map (calls_of l.callees) (take l.one-index l.answered)
