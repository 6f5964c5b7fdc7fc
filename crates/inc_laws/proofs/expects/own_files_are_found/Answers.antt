use Rattle.inc_laws.proofs.Answered.{lacking}
use Rattle.inc_laws.proofs.Replies.{own_found}
use Rattle.inc_laws.proofs.Lasting.{laws_hold}
use Rattle.inc_laws.proofs.expects.own_files_are_found.Goals as goal

pub returns-clause-state : goal.returns-clause-state
returns-clause-state c = λ files events F leads allowed. own_found files events F (laws_hold files events F leads allowed)

pub returns-clause-own : goal.returns-clause-own
returns-clause-own c = lacking
