use Rattle.inc_proto.specs.LeadLaws.{leads_sound}
use Rattle.inc_laws.proofs.Calm.{event_frozen, did_held}
use Rattle.inc_laws.proofs.Lasting.{laws_hold}
use Rattle.inc_laws.proofs.invariants.events_leave_alone.Goals as goal

pub returns : goal.returns
returns c = record {
  published_frozen = λ files events F G event leads allowed may is. event_frozen files events F (laws_hold files events F leads allowed) (leads_sound events F leads).tidy event G may is;
  held_exclusively = λ files events F G who op reply may step. did_held files events F G who op reply may step;
}
