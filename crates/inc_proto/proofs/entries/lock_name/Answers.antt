use Rattle.inc_names.specs.declared.entry.Entry.TheVariants.{Lock}
use Rattle.inc_proto.proofs.entries.lock_name.Goals as goal

pub returns-in-None-clause-none : goal.returns-in-None-clause-none
returns-in-None-clause-none c = λ n is same. c.in-None.ensures.none (Lock n) is same
