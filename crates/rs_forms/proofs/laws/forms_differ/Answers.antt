use Rattle.inc_wire.specs.Fronts.{injective_of, list_fronts}
use Rattle.rs_forms.proofs.Fronts.{forms_apart, index_fronts, sig_fronts, token_fronts, whole_fault_fronts}
use Rattle.rs_forms.proofs.Instrs.{ir_fronts}
use Rattle.rs_forms.proofs.laws.forms_differ.Goals as goal

pub returns-clause-item : goal.returns-clause-item
returns-clause-item c = λ a b. injective_of (list_fronts token_fronts) a.tokens b.tokens

pub returns-clause-index : goal.returns-clause-index
returns-clause-index c = injective_of index_fronts

pub returns-clause-fault : goal.returns-clause-fault
returns-clause-fault c = injective_of whole_fault_fronts

pub returns-clause-sig : goal.returns-clause-sig
returns-clause-sig c = injective_of sig_fronts

pub returns-clause-ir : goal.returns-clause-ir
returns-clause-ir c = injective_of ir_fronts

pub returns-clause-apart : goal.returns-clause-apart
returns-clause-apart c = forms_apart
