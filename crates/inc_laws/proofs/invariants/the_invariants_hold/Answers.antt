use Rattle.inc_proto.specs.LeadLaws.{leads_sound}
use Rattle.inc_laws.proofs.FromLaws.{names_once, locks_agree, owner_knows, held_exclusively, unpublished_private, finalised_complete, links_published, newest_stands}
use Rattle.inc_laws.proofs.Lasting.{laws_hold}
use Rattle.inc_laws.proofs.Stays.{stands_hold}
use Rattle.inc_laws.proofs.invariants.the_invariants_hold.Goals as goal

pub returns : goal.returns
returns c = record {
  names_once = λ files events F leads allowed. names_once files events F (laws_hold files events F leads allowed) (leads_sound events F leads);
  locks_agree = λ files events F leads allowed. locks_agree files events F (laws_hold files events F leads allowed);
  owner_knows = λ files events F leads allowed. owner_knows files events F (laws_hold files events F leads allowed);
  held_exclusively = λ files events F leads allowed. held_exclusively files events F (laws_hold files events F leads allowed);
  unpublished_private = λ files events F leads allowed. unpublished_private files events F (laws_hold files events F leads allowed);
  finalised_complete = λ files events F leads allowed. finalised_complete files events F (laws_hold files events F leads allowed);
  held_stands = stands_hold;
  links_published = λ files events F leads allowed. links_published files events F (laws_hold files events F leads allowed);
  newest_stands = λ files events F leads allowed. newest_stands files events F (laws_hold files events F leads allowed);
}
