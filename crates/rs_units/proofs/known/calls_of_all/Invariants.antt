use Rattle.std.proofs.Common.{◌≡◌, ℕ, ◌<◌, length}
use Rattle.rs_reach.specs.Places.{ask}
use Rattle.rs_units.specs.Ready.{kept}
use Rattle.rs_units.proofs.known.calls_of_all.Given as goal

abbrev pub invariant-loop-i : goal.invariant-loop-i
invariant-loop-i l = record {
  counted : length l.all.items ≡ l.i;
  each : (k : ℕ) → k < l.i → kept l.all.items k ≡ ask l.places l.calls k;
}
