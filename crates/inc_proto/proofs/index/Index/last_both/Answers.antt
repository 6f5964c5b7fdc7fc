use Rattle.std.proofs.Common.{sym, subst}
use Rattle.inc_proto.specs.Indexes.{Tells}
use Rattle.inc_proto.specs.Views.{IsLook, HasLooked}
use Rattle.inc_proto.proofs.Lasts.{both_told}
use Rattle.inc_proto.proofs.index.Index.last_both.Goals as goal

pub returns : goal.returns
returns c = λ steps index.
    let krate = c.args.krate.now in
    let x = c.args.x.now in
    let y = c.args.y.now in
    both_told (IsLook krate x) (IsLook krate y) steps c.in_ok-one.one c.in_ok-other.other c.both_at.result c.both_at.ensures
    (subst (Tells (HasLooked krate x) steps) (sym c.in_ok-one.ensures) (index.looked (krate, x)))
    (subst (Tells (HasLooked krate y) steps) (sym c.in_ok-other.ensures) (index.looked (krate, y)))
