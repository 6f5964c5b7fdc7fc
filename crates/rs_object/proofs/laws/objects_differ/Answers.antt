use Rattle.inc_wire.specs.Fronts.{injective_of}
use Rattle.rs_object.proofs.Fronts.{object_fronts}
use Rattle.rs_object.proofs.laws.objects_differ.Goals as goal

pub returns : goal.returns
returns c = injective_of object_fronts
