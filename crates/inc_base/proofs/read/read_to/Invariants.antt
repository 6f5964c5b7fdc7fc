use Rattle.std.proofs.Common.{◌+◌, ◌-◌, ◌≤◌, length}
use Rattle.std.specs.Io.KnownBytes.{Consumes}
use Rattle.inc_base.specs.Outside.{KeepsTelling}
use Rattle.inc_base.proofs.read.read_to.Given as goal

abbrev pub invariant-pieces : goal.invariant-pieces
invariant-pieces g l = record {
  few : length l.bytes ≤ l.limit + 1;
  taken : Consumes (g.S.Source.left l.initial.src) (g.S.Source.left l.src) l.bytes;
  telling : KeepsTelling (g.S.Source.left l.initial.src) (g.S.Source.left l.src);
  later : g.S.Source.faults l.initial.src ≤ g.S.Source.faults l.src;
}

abbrev pub decreases-pieces : goal.decreases-pieces
decreases-pieces g l = l.limit + 1 - length l.bytes
