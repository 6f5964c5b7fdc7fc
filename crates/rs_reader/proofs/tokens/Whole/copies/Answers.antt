use Rattle.std.proofs.Common.{◌∙◌}
use Rattle.rs_reader.proofs.Sighted.{copied, ok_as}
use Rattle.rs_reader.proofs.tokens.Whole.copies.Goals as goal

pub returns : goal.returns
returns c = ok_as c.copies_of.result (λ copies e. e ∙ copied c.args.base c.self.inside.rest.now c.args.self.now c.self.view_is) c.copies_of.ensures
