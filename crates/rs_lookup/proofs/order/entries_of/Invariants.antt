use Rattle.std.proofs.Common.{◌≡◌}
use Rattle.rs_lookup.proofs.order.entries_of.Given as goal

abbrev pub invariant-loop-entry : goal.invariant-loop-entry
invariant-loop-entry l = l.entries.items ≡ l.yielded
