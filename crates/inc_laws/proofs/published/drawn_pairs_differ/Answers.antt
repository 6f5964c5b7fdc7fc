use Rattle.std.proofs.Common.{subst}
use Rattle.inc_fs.specs.Lists.{AreDistinct}
use Rattle.inc_proto.specs.LeadLaws.{leads_sound}
use Rattle.inc_laws.proofs.Pairs.{drawn_is}
use Rattle.inc_laws.proofs.published.drawn_pairs_differ.Goals as goal

pub returns : goal.returns
returns c = record { drawn = drawn_is; differ = λ events F leads. subst AreDistinct (drawn_is events F leads) (leads_sound events F leads).tidy.drawn }
