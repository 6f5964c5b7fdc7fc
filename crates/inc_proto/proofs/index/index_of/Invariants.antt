use Rattle.std.proofs.Common.{take, reverse}
use Rattle.inc_proto.specs.Indexes.{Indexes}
use Rattle.inc_proto.proofs.index.index_of.Given as goal

abbrev pub invariant-loop-at : goal.invariant-loop-at
invariant-loop-at l = Indexes (reverse (take l.at l.steps)) l.index
