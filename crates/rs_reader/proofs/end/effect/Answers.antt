use Rattle.std.proofs.Common.{refl}
use Rattle.rs_tree.specs.declared.kind.Kind.TheVariants as k
use Rattle.rs_reader.proofs.Makes.{makes, makes_none}
use Rattle.rs_reader.proofs.Steps.{refused}
use Rattle.rs_reader.proofs.end.effect.Goals as goal

pub returns-then-not-sees : goal.returns-then-not-sees
returns-then-not-sees c = makes_none (let r = refused k.Semicolon c.args.tokens.now c.if-not-sees.ensures in r.is)

pub returns : goal.returns
returns c = makes c.take.result refl c.take.ensures.is
