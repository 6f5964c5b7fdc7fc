use Rattle.rs_reader.proofs.Steps.{next_from}
use Rattle.rs_reader.proofs.tokens.Whole.next.Goals as goal

pub returns-in-len1-up : goal.returns-in-len1-up
returns-in-len1-up c = next_from _ _ _ _ c.self.invariant c.self.view_is c.in-len1-up.len_at_least
