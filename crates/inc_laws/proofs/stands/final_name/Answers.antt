use Rattle.inc_names.specs.declared.entry.Entry.TheVariants.{Final}
use Rattle.inc_laws.proofs.stands.final_name.Goals as goal

-- src/stands.rt:59:1
pub returns-in-None : goal.returns-in-None
returns-in-None c = λ n hash is small same. c.in-None.ensures.none (Final n hash) (is, small) same
