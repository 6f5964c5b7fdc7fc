use Rattle.rs_reader.proofs.Steps.{refused}
use Rattle.rs_reader.proofs.tokens.Tokens.expect.Goals as goal

pub returns-then-not-sees : goal.returns-then-not-sees
returns-then-not-sees c = refused c.args.kind c.args.self.now c.if-not-sees.ensures
