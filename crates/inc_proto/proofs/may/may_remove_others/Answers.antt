use Rattle.std.proofs.Common.{reverse}
use Rattle.inc_proto.specs.Permits.{MayRemoveOthers}
use Rattle.inc_proto.proofs.Mays.{answers_as, never, HoldsClear, may_remove_others, remove_holds}
use Rattle.inc_proto.proofs.may.may_remove_others.Goals as goal

pub returns-in-Some : goal.returns-in-Some
returns-in-Some c =
    let steps = reverse c.args.steps.now in
    let krate = c.args.krate.now in
    let entry = c.args.entry.now in
    let n = c.in-Some.n in
    let is = c.in-Some.ensures.some in
    answers_as (HoldsClear krate n steps) (MayRemoveOthers steps krate entry) c.holds_so.result
    (may_remove_others steps krate entry n is.0 is.1) (remove_holds steps krate entry n is.1) c.holds_so.ensures

pub returns-in-None : goal.returns-in-None
returns-in-None c = never (λ w. c.in-None.ensures.none w.0 w.6 w.7)
