use Rattle.std.proofs.Common.{take, drop, reverse, length}
use Rattle.inc_laws.specs.Places.{IsSought, AreFar}
use Rattle.inc_laws.proofs.loads.latest_load.Given as goal

abbrev pub invariant-loop-step : goal.invariant-loop-step
invariant-loop-step l = record {
  sought : IsSought l.krate (reverse (take l.step-index l.steps)) (drop l.step-index l.steps) l.step-index l.search.opened l.search.until l.search.found;
  far : AreFar l.krate (length l.steps) (drop l.step-index l.steps) l.step-index (reverse l.fars.items);
}
