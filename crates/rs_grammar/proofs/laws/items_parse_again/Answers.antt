use Rattle.rs_grammar.proofs.Again as again
use Rattle.rs_grammar.proofs.laws.items_parse_again.Goals as goal

pub returns-clause-again : goal.returns-clause-again
returns-clause-again c = again.items_parse_again

pub returns-clause-follow : goal.returns-clause-follow
returns-clause-follow c = again.items_follow
