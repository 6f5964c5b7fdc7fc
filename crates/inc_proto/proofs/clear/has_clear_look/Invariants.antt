use Rattle.std.proofs.Common.{drop, reverse}
use Rattle.inc_proto.specs.Clears.{HasClearLook}
use Rattle.inc_proto.proofs.Cleared.{HasClearIn}
use Rattle.inc_proto.proofs.clear.has_clear_look.Given as goal

abbrev pub invariant-loop-at : goal.invariant-loop-at
invariant-loop-at l = HasClearLook l.krate l.n (reverse l.steps) → HasClearIn l.krate l.n (drop l.at l.steps)
