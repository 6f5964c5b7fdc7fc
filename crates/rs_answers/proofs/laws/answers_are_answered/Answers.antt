use Rattle.rs_answers.proofs.Seeks as seeks
use Rattle.rs_answers.proofs.laws.answers_are_answered.Goals as goal

pub returns-clause-there : goal.returns-clause-there
returns-clause-there c = seeks.answers_are_answered

pub returns-clause-one : goal.returns-clause-one
returns-clause-one c = seeks.answers_have_one_answer
