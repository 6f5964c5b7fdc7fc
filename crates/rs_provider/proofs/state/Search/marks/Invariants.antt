use Rattle.std.proofs.Common.{◌≡◌, map, take}
use Rattle.rs_provider.specs.Searches.{may_find}
use Rattle.rs_provider.proofs.state.Search.marks.Given as goal

abbrev pub invariant-loop-item : goal.invariant-loop-item
invariant-loop-item l = l.marks.items ≡ map (may_find l.self) (take l.item-index l.items)
