use Rattle.rs_grammar.proofs.Distinct as distinct
use Rattle.rs_grammar.proofs.Texts as texts
use Rattle.rs_grammar.proofs.laws.trees_are_tidy.Goals as goal

pub returns-clause-tidy : goal.returns-clause-tidy
returns-clause-tidy c = distinct.trees_are_tidy

pub returns-clause-names : goal.returns-clause-names
returns-clause-names c = texts.names_are_plain
