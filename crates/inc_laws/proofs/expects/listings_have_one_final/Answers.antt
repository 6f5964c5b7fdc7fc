use Rattle.inc_laws.proofs.Answered.{one_hash}
use Rattle.inc_laws.proofs.Replies.{one_final}
use Rattle.inc_laws.proofs.Lasting.{laws_hold}
use Rattle.inc_laws.proofs.expects.listings_have_one_final.Goals as goal

pub returns-clause-state : goal.returns-clause-state
returns-clause-state c = λ files events F G leads allowed who krate names s. one_final files events F (laws_hold files events F leads allowed) krate names G s

pub returns-clause-own : goal.returns-clause-own
returns-clause-own c = one_hash
