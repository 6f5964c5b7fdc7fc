use Rattle.rs_reader.proofs.Steps.{skipped_kinds, skipped_lexemes}
use Rattle.rs_reader.proofs.tokens.Whole.skip.Goals as goal

pub invariant_of-self : goal.invariant_of-self
invariant_of-self c = skipped_kinds _ _ _ _ c.self.invariant c.self.view_is c.requires

pub returns : goal.returns
returns c = skipped_lexemes _ _ _ c.self.view_is c.requires
