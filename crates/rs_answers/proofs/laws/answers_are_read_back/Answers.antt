use Rattle.inc_wire.specs.Narrow.{read_back}
use Rattle.rs_answers.specs.Fits.{FitsConst, FitsDiags, FitsPlaces}
use Rattle.rs_answers.specs.Forms.{const_form, diags_form, places_form}
use Rattle.rs_answers.proofs.laws.answers_are_read_back.Goals as goal

pub returns-clause-constant : goal.returns-clause-constant
returns-clause-constant c = read_back FitsConst const_form

pub returns-clause-diags : goal.returns-clause-diags
returns-clause-diags c = read_back FitsDiags diags_form

pub returns-clause-places : goal.returns-clause-places
returns-clause-places c = read_back FitsPlaces places_form
