use Rattle.std.proofs.Common.{take}
use Rattle.inc_fs.specs.Lists.{IsIn}
use Rattle.inc_names.specs.Entries.{lock_text}
use Rattle.inc_proto.proofs.clear.lists_lock.Given as goal

abbrev pub invariant-loop-name : goal.invariant-loop-name
invariant-loop-name l = ¬ IsIn (take l.name-index l.names) (lock_text l.n)
