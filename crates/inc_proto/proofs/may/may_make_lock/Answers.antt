use Rattle.std.proofs.Common.{sym, ◌∙◌, reverse}
use Rattle.inc_proto.specs.Permits.{MayMakeLock}
use Rattle.inc_proto.specs.Views.{name}
use Rattle.inc_proto.proofs.Mays.{answers_as, never, unnamed, IsFirstLock, may_make_lock, lock_is_first}
use Rattle.inc_proto.proofs.may.may_make_lock.Goals as goal

pub returns-in-Some : goal.returns-in-Some
returns-in-Some c =
    let job = c.args.job.now in
    let steps = reverse c.args.steps.now in
    let krate = c.args.krate.now in
    let entry = c.args.entry.now in
    let n = c.in-Some.n in
    let named = sym c.requires.drawn ∙ c.in-Some.is in
    answers_as (IsFirstLock job steps krate entry n) (MayMakeLock job steps krate entry) c.is_first_lock.result
    (may_make_lock job steps krate entry n named) (lock_is_first job steps krate entry n named) c.is_first_lock.ensures

pub returns-in-None : goal.returns-in-None
returns-in-None c = never (λ w. unnamed c.args.drawn (name (reverse c.args.steps.now)) c.in-None.is c.requires.drawn w.1)
