use Rattle.rs_text.proofs.Fitting as fitting
use Rattle.rs_text.proofs.laws.lexed_tokens_fit.Goals as goal

pub returns : goal.returns
returns c = fitting.tokens_fit
