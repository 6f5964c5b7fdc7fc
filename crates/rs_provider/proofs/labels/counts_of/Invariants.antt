use Rattle.std.proofs.Common.{drop}
use Rattle.rs_provider.specs.Counts.{AreCounted}
use Rattle.rs_provider.proofs.labels.counts_of.Given as goal

abbrev pub invariant-loop-i : goal.invariant-loop-i
invariant-loop-i l = AreCounted l.counts (drop l.i l.code)
