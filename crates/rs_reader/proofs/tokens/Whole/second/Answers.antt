use Rattle.rs_reader.proofs.Steps.{second_from}
use Rattle.rs_reader.proofs.tokens.Whole.second.Goals as goal

pub returns-in-len2-up : goal.returns-in-len2-up
returns-in-len2-up c = second_from _ _ _ _ c.self.invariant c.self.view_is c.in-len2-up.len_at_least
