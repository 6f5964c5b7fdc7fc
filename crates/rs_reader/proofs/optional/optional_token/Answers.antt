use Rattle.std.proofs.Common.{sym}
use Rattle.rs_grammar.specs.Parses.{r-none, r-some}
use Rattle.rs_reader.proofs.Exits.{read}
use Rattle.rs_reader.proofs.optional.optional_token.Goals as goal

pub returns-then-not-sees : goal.returns-then-not-sees
returns-then-not-sees c = read (r-none (sym c.if-not-sees.ensures))

pub returns : goal.returns
returns c = read (r-some (sym c.if-not-sees.ensures) c.take-token.ensures.is)
