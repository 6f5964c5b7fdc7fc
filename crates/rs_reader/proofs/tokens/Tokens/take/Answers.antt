use Rattle.rs_reader.proofs.Steps.{seen_so, taken_so}
use Rattle.rs_reader.proofs.tokens.Tokens.take.Goals as goal

pub take-requires : goal.take-requires
take-requires c = seen_so c.args.kind c.self.inside.base c.self.inside.whole c.self.view_is c.requires

pub returns : goal.returns
returns c = taken_so c.self.inside.base c.moved.ensures c.self.view_is c.take.ensures
