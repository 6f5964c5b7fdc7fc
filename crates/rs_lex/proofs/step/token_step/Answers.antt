use Rattle.std.proofs.Common.{sym, ◌∙◌}
use Rattle.rs_lex.proofs.Measured.{token_measured}
use Rattle.rs_lex.proofs.step.token_step.Goals as goal

pub returns-then-is_token : goal.returns-then-is_token
returns-then-is_token c = token_measured c.args.rest.now c.form_length-length.result c.form_length-length.ensures.value (sym c.is_token.ensures ∙ c.if-is_token.true)
