use Rattle.std.proofs.Common.{sym, subst, IfOk}
use Rattle.inc_fs.specs.declared.op.Op.TheVariants.{MakeLock}
use Rattle.inc_proto.specs.Events.{Steps}
use Rattle.inc_proto.specs.Indexes.{IsTold, Tells, Indexes}
use Rattle.inc_proto.specs.Sought.{IsSought}
use Rattle.inc_proto.specs.Views.{HasAny, HasListed, HasLooked, HasTried}
use Rattle.inc_proto.specs.declared.index.Told.TheVariants.{At}
use Rattle.inc_proto.proofs.index.Index.last_of.Goals as goal

pub returns-in_ok-at-in-Listing : goal.returns-in_ok-at-in-Listing
returns-in_ok-at-in-Listing c = λ steps index.
    let krate = c.in-Listing.krate.now in
    let entry = c.in-Listing.entry.now in
    let file = c.in-Listing.file.now in
    let at = c.in_ok-at-in-Listing.at in
    subst (λ s. IsTold (HasAny (IsSought s)) steps (At at)) (sym c.in-Listing.is)
    (subst (Tells (HasListed krate entry file) steps) (sym c.in_ok-at-in-Listing.ensures) (index.listed ((krate, entry), file)))

pub returns-in_ok-at-in-Look : goal.returns-in_ok-at-in-Look
returns-in_ok-at-in-Look c = λ steps index.
    let krate = c.in-Look.krate.now in
    let entry = c.in-Look.entry.now in
    let at = c.in_ok-at-in-Look.at in
    subst (λ s. IsTold (HasAny (IsSought s)) steps (At at)) (sym c.in-Look.is)
    (subst (Tells (HasLooked krate entry) steps) (sym c.in_ok-at-in-Look.ensures) (index.looked (krate, entry)))

pub returns-in-Both : goal.returns-in-Both
returns-in-Both c =
    subst (λ s. IfOk c.last_both.result (λ told. (steps : Steps) → Indexes steps c.args.self.now → IsTold (HasAny (IsSought s)) steps told)) (sym c.in-Both.is) c.last_both.ensures

pub returns-in_ok-at-in-Back : goal.returns-in_ok-at-in-Back
returns-in_ok-at-in-Back c = λ steps index.
    let at = c.in_ok-at-in-Back.at in
    subst (λ s. IsTold (HasAny (IsSought s)) steps (At at)) (sym c.in-Back.is) (c.in_ok-at-in-Back.ensures steps index)

pub returns-in_ok-at-in-LockMaking : goal.returns-in_ok-at-in-LockMaking
returns-in_ok-at-in-LockMaking c = λ steps index.
    let krate = c.in-LockMaking.krate.now in
    let entry = c.in-LockMaking.entry.now in
    let at = c.in_ok-at-in-LockMaking.at in
    subst (λ s. IsTold (HasAny (IsSought s)) steps (At at)) (sym c.in-LockMaking.is)
    (subst (Tells (HasTried (MakeLock krate entry)) steps) (sym c.in_ok-at-in-LockMaking.ensures) (index.asked (krate, entry)))

pub returns-in-DirMaking : goal.returns-in-DirMaking
returns-in-DirMaking c = λ steps index.
    subst (λ s. IsTold (HasAny (IsSought s)) steps (At c.args.self.now.made)) (sym c.in-DirMaking.is) index.made
