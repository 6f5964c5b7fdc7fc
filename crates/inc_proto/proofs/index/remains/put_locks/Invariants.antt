use Rattle.std.proofs.Common.{take}
use Rattle.inc_proto.specs.Lefts.{IsLocked}
use Rattle.inc_proto.proofs.index.remains.put_locks.Given as goal

abbrev pub invariant-loop-name : goal.invariant-loop-name
invariant-loop-name l = IsLocked l.krate (take l.name-index l.names) l.at l.fn.left l.left
