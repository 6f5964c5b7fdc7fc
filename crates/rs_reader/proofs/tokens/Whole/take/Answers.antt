use Rattle.rs_reader.proofs.Steps.{taken_from}
use Rattle.rs_reader.proofs.tokens.Whole.take.Goals as goal

pub returns : goal.returns
returns c =
    let tokens = rw c.unwrap.ensures at c.split_first.ensures.cases in
    let kinds = rw c.unwrap-2.ensures at c.split_first-2.ensures.cases in
    taken_from tokens.0 kinds.0 c.self.invariant c.self.view_is c.new.ensures c.requires
