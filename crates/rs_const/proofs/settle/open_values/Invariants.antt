use Rattle.std.proofs.Common.{◌≡◌, take}
use Rattle.rs_const.specs.State.{opens}
use Rattle.rs_const.proofs.settle.open_values.Given as goal

abbrev pub invariant-loop-entry : goal.invariant-loop-entry
invariant-loop-entry l = l.values.items ≡ opens (take l._entry-index l.known)
