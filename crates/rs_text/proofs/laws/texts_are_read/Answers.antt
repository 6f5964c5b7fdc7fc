use Rattle.rs_text.proofs.Whole as whole
use Rattle.rs_text.proofs.laws.texts_are_read.Goals as goal

pub returns-clause-lexed : goal.returns-clause-lexed
returns-clause-lexed c = whole.lexed_law

pub returns-clause-parsed : goal.returns-clause-parsed
returns-clause-parsed c = whole.parsed_law

pub returns-clause-text : goal.returns-clause-text
returns-clause-text c = whole.text_law
