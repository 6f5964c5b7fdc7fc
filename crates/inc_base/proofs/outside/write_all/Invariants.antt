use Rattle.std.proofs.Common.{◌-◌, ◌≤◌, length, take}
use Rattle.std.specs.Io.KnownBytes.{Appends}
use Rattle.inc_base.specs.Outside.{KeepsTelling}
use Rattle.inc_base.proofs.outside.write_all.Given as goal

abbrev pub invariant-loop-at : goal.invariant-loop-at
invariant-loop-at g l = record {
  within : l.at ≤ length l.bytes;
  appended : Appends (g.O.Sink.held l.initial.out) (g.O.Sink.held l.out) (take l.at l.bytes);
  telling : KeepsTelling (g.O.Sink.held l.initial.out) (g.O.Sink.held l.out);
  later : g.O.Sink.faults l.initial.out ≤ g.O.Sink.faults l.out;
}

abbrev pub decreases-loop-at : goal.decreases-loop-at
decreases-loop-at g l = length l.bytes - l.at
