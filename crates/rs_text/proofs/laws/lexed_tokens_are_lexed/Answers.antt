use Rattle.rs_text.proofs.Order as order
use Rattle.rs_text.proofs.laws.lexed_tokens_are_lexed.Goals as goal

pub returns : goal.returns
returns c = order.tokens_are_lexed
