use Rattle.rs_reader.proofs.Sighted.{front_kinds, front_lexemes}
use Rattle.rs_reader.proofs.tokens.Whole.front.Goals as goal

pub invariant_of-result : goal.invariant_of-result
invariant_of-result c = front_kinds _ _ _ c.self.invariant

pub returns : goal.returns
returns c = front_lexemes _ _ _ c.self.view_is
