use Rattle.std.proofs.Common.{sym, subst}
use Rattle.inc_proto.specs.Asked.{AreOrdered}
use Rattle.inc_proto.proofs.Wholes.{dir_ordered}
use Rattle.inc_proto.proofs.permits.has_wanted.Goals as goal

pub is_exactly-yes-requires : goal.is_exactly-yes-requires
is_exactly-yes-requires g c = subst AreOrdered (sym c.requires) (dir_ordered c.args.view.now.steps)
