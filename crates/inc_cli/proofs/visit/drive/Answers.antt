use Rattle.std.proofs.Common.{◌≡◌, ◌∙◌, sym, refl, Some}
use Rattle.std.proofs.lemmas.Result.{err_from_is_err_and}
use Rattle.inc_proto.specs.GrowthLaws.{tells_same}
use Rattle.inc_session.specs.Saves.{IsLegalHere, saved_clear}
use Rattle.inc_cli.proofs.Driving.{drives_first, drives_on, goes_no_further, goes_so_far, has_ended, may_ask}
use Rattle.inc_cli.proofs.Seeing.{owed}
use Rattle.inc_cli.proofs.visit.drive.Goals as goal

pub steps-init : goal.steps-init
steps-init g c = record { runs = c.requires.running; own = refl; driving = drives_first _ _ _ _ _ c.requires.fresh }

pub returns-in_err-asked-clause-err : goal.returns-in_err-asked-clause-err
returns-in_err-asked-clause-err g c =
    let p = err_from_is_err_and c.from_residual.result c.from_residual.ensures.1 in
    rw p.1 (goes_no_further _ _ _ c.in-Some.op.now _ _ _ _ _ _ _ c.steps.invariant.driving (tells_same IsLegalHere _ _))

pub act-requires-clause-permitted : goal.act-requires-clause-permitted
act-requires-clause-permitted g c =
    let d = c.steps.invariant.driving in
    let asks : c.steps.session.op ≡ Some c.in_ok-asked.asked = cc (c.in-Some.ensures.value, c.in_ok-asked.ensures) in
    rw c.steps.invariant.own
    (owed (g.D.Dir.own c.args.dir.now) c.args.session.now.task saved_clear d.steps _ c.in_ok-asked.asked (d.sees c.requires.sees c.in_ok-asked.asked asks)
    (may_ask c.args.session.now c.steps.session d.steps c.in_ok-asked.asked d.task d.made asks c.in-Some.ensures.permitted))

pub returns-in_err-reply-clause-err : goal.returns-in_err-reply-clause-err
returns-in_err-reply-clause-err g c =
    let p = err_from_is_err_and c.from_residual-in_err-reply.result c.from_residual-in_err-reply.ensures.1 in
    let rest = rw c.steps.invariant.own at c.in_err-reply.ensures.err in
    rw p.1 (goes_no_further _ _ _ c.in-Some.op.now _ _ _ _ _ _ _ c.steps.invariant.driving rest)

pub steps-smaller : goal.steps-smaller
steps-smaller g c = c.in_ok-feed.ensures.fewer

pub steps-preserved : goal.steps-preserved
steps-preserved g c =
    let asks : c.steps.session.op ≡ Some c.in_ok-asked.asked = cc (c.in-Some.ensures.value, c.in_ok-asked.ensures) in
    let told = rw c.steps.invariant.own at c.in_ok-reply.ensures.ok in record {
      runs = c.in_ok-reply.ensures.runs;
      own = c.in_ok-reply.ensures.own ∙ c.steps.invariant.own;
      driving = drives_on _ _ _ _ _ _ _ _ _ _ _ _ _ _ _ c.steps.invariant.driving asks told c.in_ok-feed.ensures.ok c.in_ok-reply.ensures.kind
          c.in_ok-reply.ensures.faults c.in_ok-reply.ensures.cause c.in_ok-feed.ensures.meter;
    }

pub returns-in_err-feed-clause-err : goal.returns-in_err-feed-clause-err
returns-in_err-feed-clause-err g c =
    let p = err_from_is_err_and c.from_residual-in_err-feed.result c.from_residual-in_err-feed.ensures.1 in
    let asks : c.steps.session.op ≡ Some c.in_ok-asked.asked = cc (c.in-Some.ensures.value, c.in_ok-asked.ensures) in
    let told = rw c.steps.invariant.own at c.in_ok-reply.ensures.ok in
    rw p.1 (goes_so_far _ _ _ _ _ _ _ _ _ _ _ _ c.steps.invariant.driving asks told)

pub feed-requires-clause-asks : goal.feed-requires-clause-asks
feed-requires-clause-asks g c = c.steps.invariant.driving.made.asked

pub returns-clause-ok : goal.returns-clause-ok
returns-clause-ok g c = has_ended _ _ _ _ _ _ _ _ _ c.steps.invariant.driving (sym c.in_default.ensures.value)
