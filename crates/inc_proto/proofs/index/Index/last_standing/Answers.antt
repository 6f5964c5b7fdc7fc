use Rattle.std.proofs.Common.{sym, subst}
use Rattle.inc_fs.specs.declared.op.Op.TheVariants.{UnlinkLock}
use Rattle.inc_proto.specs.Indexes.{Tells}
use Rattle.inc_proto.specs.Views.{HasLooked, HasDone}
use Rattle.inc_proto.proofs.Lasts.{still_told}
use Rattle.inc_proto.proofs.index.Index.last_standing.Goals as goal

pub returns : goal.returns
returns c = λ steps index.
    let krate = c.args.krate.now in
    let entry = c.args.entry.now in
    still_told krate entry steps c.in_ok-said.said c.in_ok-gone.gone c.still.result c.still.ensures
    (subst (Tells (HasLooked krate entry) steps) (sym c.in_ok-said.ensures) (index.looked (krate, entry)))
    (subst (Tells (HasDone (UnlinkLock krate entry)) steps) (sym c.in_ok-gone.ensures) (index.unlinked (krate, entry)))
