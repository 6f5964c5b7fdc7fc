use Rattle.std.proofs.Common.{reverse}
use Rattle.inc_proto.proofs.Mays.{answers_as, HasStandingLock, StandsSince, stands_locked, locked_stands}
use Rattle.inc_proto.proofs.may.has_standing_lock.Goals as goal

pub returns-in-Locked : goal.returns-in-Locked
returns-in-Locked c =
    let steps = reverse c.args.steps.now in
    let krate = c.args.krate.now in
    let n = c.args.n in
    let h = c.in-Locked.h in
    answers_as (StandsSince h krate n steps) (HasStandingLock c.args.lock krate n steps) c.stands_since.result
    (stands_locked c.args.lock h krate n steps c.in-Locked.is) (locked_stands c.args.lock h krate n steps c.in-Locked.is) c.stands_since.ensures
