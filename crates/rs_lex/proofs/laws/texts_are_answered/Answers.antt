use Rattle.rs_lex.proofs.Total as total
use Rattle.rs_lex.proofs.laws.texts_are_answered.Goals as goal

pub returns-clause-there : goal.returns-clause-there
returns-clause-there c = total.texts_are_answered

pub returns-clause-one : goal.returns-clause-one
returns-clause-one c = total.one_answer
