use Rattle.std.proofs.Common.{sym}
use Rattle.rs_grammar.specs.Parses.{r-none, r-some, r-held}
use Rattle.rs_reader.proofs.Exits.{passes, read}
use Rattle.rs_parse.proofs.optional.optional_expression.Goals as goal

pub returns-then-not-sees_expression : goal.returns-then-not-sees_expression
returns-then-not-sees_expression c = read (r-none (sym c.if-not-sees_expression.ensures))

pub returns-in_err-value : goal.returns-in_err-value
returns-in_err-value c = passes c.from_residual.result c.from_residual.ensures.1 c.in_err-value.ensures (λ r. r-held (sym c.if-not-sees_expression.ensures) r)

pub returns : goal.returns
returns c = read (r-some (sym c.if-not-sees_expression.ensures) c.in_ok-value.ensures.is)
