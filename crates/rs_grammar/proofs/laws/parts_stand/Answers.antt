use Rattle.rs_grammar.proofs.Standing as standing
use Rattle.rs_grammar.proofs.laws.parts_stand.Goals as goal

pub returns-clause-expressions : goal.returns-clause-expressions
returns-clause-expressions c = standing.expressions_begin

pub returns-clause-names : goal.returns-clause-names
returns-clause-names c = standing.names_twice_stand
