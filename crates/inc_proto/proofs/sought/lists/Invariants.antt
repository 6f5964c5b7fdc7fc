use Rattle.std.proofs.Common.{take}
use Rattle.inc_fs.specs.Lists.{IsIn}
use Rattle.inc_proto.proofs.sought.lists.Given as goal

abbrev pub invariant-loop-name : goal.invariant-loop-name
invariant-loop-name l = ¬ IsIn (take l.name-index l.names) l.entry
