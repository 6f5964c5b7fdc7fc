use Rattle.rs_units.proofs.Reached.{members_reached, none_missing, wants_first, own_first}
use Rattle.rs_units.proofs.Once.{members_once}
use Rattle.rs_units.proofs.laws.members_are_reached.Goals as goal

pub returns : goal.returns
returns c = record { members = members_reached; none = none_missing; first = wants_first; own = own_first; once = members_once }
