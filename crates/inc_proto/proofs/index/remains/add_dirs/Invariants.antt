use Rattle.std.proofs.Common.{take}
use Rattle.inc_proto.specs.Lefts.{IsWith}
use Rattle.inc_proto.proofs.index.remains.add_dirs.Given as goal

abbrev pub invariant-loop-name : goal.invariant-loop-name
invariant-loop-name l = IsWith l.krate (take l.name-index l.names) l.fn.left l.left
