use Rattle.rs_grammar.proofs.Turned as turned
use Rattle.rs_grammar.proofs.laws.places_turn.Goals as goal

pub returns : goal.returns
returns c = turned.places_turn
