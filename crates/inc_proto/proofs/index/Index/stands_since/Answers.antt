use Rattle.std.proofs.Common.{subst}
use Rattle.std.specs.Map.{lookup}
use Rattle.std.specs.Ordering.{nat_cmp}
use Rattle.std.specs.BTreeMap.{is_at}
use Rattle.inc_names.specs.Entries.{lock_text}
use Rattle.inc_proto.specs.Indexes.{Tells, kept_hold}
use Rattle.inc_proto.specs.Views.{IsStanding, alone}
use Rattle.inc_proto.specs.declared.holds.Way.TheVariants.{Alone}
use Rattle.inc_proto.proofs.Holding.{held_says, says_held}
use Rattle.inc_proto.proofs.index.Index.stands_since.Goals as goal

pub returns : goal.returns
returns c = λ steps index.
    let krate = c.args.krate.now in
    let h = c.args.h in
    let Stands = IsStanding krate (lock_text c.args.n) in
    let hold = kept_hold (lookup (is_at (nat_cmp h)) c.args.self.now.holds) in
    let at = c.in_ok-at.at in
    let told = subst (λ t. Tells (IsStanding krate t) steps at) c.in_ok-lock.ensures (c.in_ok-at.ensures steps index) in
    let since = (index.holds h).held_at Alone in (
      λ yes. held_says Stands steps at (alone h steps) hold.alone (λ after before split. (told after before split).1) since (c.is_alone_since.ensures.0 yes),
      λ w. c.is_alone_since.ensures.1 (says_held Stands steps at (alone h steps) hold.alone w.0 told since w.1 w.2),
    )
