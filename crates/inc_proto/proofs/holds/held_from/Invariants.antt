use Rattle.std.proofs.Common.{take, reverse, ◌≡◌, ◌≤◌, IfSome}
use Rattle.inc_proto.specs.Sought.{held}
use Rattle.inc_proto.proofs.Helds.{tail_at}
use Rattle.inc_proto.proofs.holds.held_from.Given as goal

abbrev pub invariant-loop-at : goal.invariant-loop-at
invariant-loop-at l = record {
  within : IfSome l.from (λ from. from ≤ l.at);
  held : held l.way l.h (reverse (take l.at l.steps)) ≡ tail_at (take l.at l.steps) l.from;
}
