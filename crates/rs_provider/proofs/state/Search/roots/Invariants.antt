use Rattle.std.proofs.Common.{◌≡◌, ◌++◌, drop}
use Rattle.rs_reach.specs.Dead.{numbers_where}
use Rattle.rs_provider.specs.Searches.{begins_with}
use Rattle.rs_provider.proofs.state.Search.roots.Given as goal

abbrev pub invariant-loop-i : goal.invariant-loop-i
invariant-loop-i l = l.roots.items ++ numbers_where (begins_with l.self) l.i (drop l.i l.items) ≡ numbers_where (begins_with l.self) 0 l.items
