use Rattle.inc_wire.specs.Fits.{FitsList}
use Rattle.inc_wire.specs.Forms.{list_form}
use Rattle.inc_wire.specs.Narrow.{read_back}
use Rattle.rs_forms.specs.Fits.{FitsFault, FitsIndex, FitsIr, FitsSig, FitsToken}
use Rattle.rs_forms.specs.Forms.{fault_form, index_form, ir_form, sig_form, token_form}
use Rattle.rs_forms.proofs.laws.forms_are_read_back.Goals as goal

pub returns-clause-item : goal.returns-clause-item
returns-clause-item c = λ item read. read_back (FitsList FitsToken) (list_form token_form) item.tokens read

pub returns-clause-index : goal.returns-clause-index
returns-clause-index c = read_back FitsIndex index_form

pub returns-clause-fault : goal.returns-clause-fault
returns-clause-fault c = read_back FitsFault fault_form

pub returns-clause-sig : goal.returns-clause-sig
returns-clause-sig c = read_back FitsSig sig_form

pub returns-clause-ir : goal.returns-clause-ir
returns-clause-ir c = read_back FitsIr ir_form
