use Rattle.rs_forms.proofs.Readers as readers
use Rattle.rs_forms.proofs.laws.forms_are_answered.Goals as goal

pub returns-clause-there : goal.returns-clause-there
returns-clause-there c = readers.forms_are_answered

pub returns-clause-one : goal.returns-clause-one
returns-clause-one c = readers.forms_have_one_answer
