use Rattle.inc_laws.proofs.Answered.{loads_set}
use Rattle.inc_laws.proofs.Gave.{gave}
use Rattle.inc_laws.proofs.expects.whole_loads_are_published.Goals as goal

pub returns-clause-given : goal.returns-clause-given
returns-clause-given c = λ files events F leads allowed who krate n hash names load. gave files events F leads allowed who krate n hash names load

pub returns-clause-read : goal.returns-clause-read
returns-clause-read c = loads_set
