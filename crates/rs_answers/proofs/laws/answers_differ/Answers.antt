use Rattle.inc_wire.specs.Fronts.{injective_of}
use Rattle.rs_answers.proofs.Fronts.{const_fronts, diags_fronts, places_fronts}
use Rattle.rs_answers.proofs.laws.answers_differ.Goals as goal

pub returns-clause-constant : goal.returns-clause-constant
returns-clause-constant c = injective_of const_fronts

pub returns-clause-diags : goal.returns-clause-diags
returns-clause-diags c = injective_of diags_fronts

pub returns-clause-places : goal.returns-clause-places
returns-clause-places c = injective_of places_fronts
