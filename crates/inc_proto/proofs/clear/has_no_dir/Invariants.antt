use Rattle.std.proofs.Common.{take}
use Rattle.inc_proto.specs.Permits.{HasNoDir}
use Rattle.inc_proto.proofs.clear.has_no_dir.Given as goal

abbrev pub invariant-loop-name : goal.invariant-loop-name
invariant-loop-name l = HasNoDir l.n (take l.name-index l.names)
