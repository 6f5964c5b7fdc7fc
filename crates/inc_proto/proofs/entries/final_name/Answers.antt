use Rattle.inc_names.specs.declared.entry.Entry.TheVariants.{Final}
use Rattle.inc_proto.proofs.entries.final_name.Goals as goal

pub returns-in-None-clause-none : goal.returns-in-None-clause-none
returns-in-None-clause-none c = λ n hash is small same. c.in-None.ensures.none (Final n hash) (is, small) same
