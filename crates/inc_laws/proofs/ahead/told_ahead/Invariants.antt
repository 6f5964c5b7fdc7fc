use Rattle.std.proofs.Common.{drop, reverse, length}
use Rattle.inc_laws.specs.Places.{TellsAhead, AreFar}
use Rattle.inc_laws.proofs.ahead.told_ahead.Given as goal

abbrev pub invariant-loop-at : goal.invariant-loop-at
invariant-loop-at l = record {
  tells : TellsAhead l.krate (drop l.at l.steps) l.at (length l.steps) l.closings l.linkings;
  fars : AreFar l.krate (length l.steps) (drop l.at l.steps) l.at (reverse l.fars.items);
}
