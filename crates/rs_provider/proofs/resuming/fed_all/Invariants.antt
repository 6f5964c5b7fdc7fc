use Rattle.std.proofs.Common.{take}
use Rattle.rs_provider.specs.Begun.{values_of}
use Rattle.rs_provider.specs.Fitting.{WasFed}
use Rattle.rs_provider.proofs.resuming.fed_all.Given as goal

abbrev pub invariant-loop-i : goal.invariant-loop-i
invariant-loop-i l = WasFed l.initial.begun.level l.initial.begun.q (values_of (take l.i l.known)) l.begun
