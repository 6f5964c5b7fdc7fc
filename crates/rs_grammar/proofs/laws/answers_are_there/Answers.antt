use Rattle.rs_grammar.proofs.There as there
use Rattle.rs_grammar.proofs.laws.answers_are_there.Goals as goal

pub returns : goal.returns
returns c = there.answers_are_there
