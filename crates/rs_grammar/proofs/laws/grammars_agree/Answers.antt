use Rattle.rs_grammar.proofs.Written as written
use Rattle.rs_grammar.proofs.laws.grammars_agree.Goals as goal

pub returns-clause-forms : goal.returns-clause-forms
returns-clause-forms c = written.forms_agree

pub returns-clause-texts : goal.returns-clause-texts
returns-clause-texts c = written.texts_agree
