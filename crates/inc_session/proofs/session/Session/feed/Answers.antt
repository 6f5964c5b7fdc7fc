use Rattle.std.proofs.Common.{◌∙◌, ap, refl}
use Rattle.std.proofs.lemmas.Result.{err_from_is_err_and}
use Rattle.inc_plan.specs.Plan.{fed}
use Rattle.inc_session.specs.Compiling.{units_of}
use Rattle.inc_session.specs.Order.{part_rest}
use Rattle.inc_session.proofs.Asks.{goes_on, part_asks, part_metered, fewer_left, gives_up}
use Rattle.inc_session.proofs.session.Session.feed.Goals as goal

pub next-requires : goal.next-requires
next-requires c = part_asks c.args.self.now c.replace-part.result c.replace-part.ensures.value c.requires.asks c.requires.going

pub returns-in_err-part-clause-err : goal.returns-in_err-part-clause-err
returns-in_err-part-clause-err c =
    let p = err_from_is_err_and c.from_residual.result c.from_residual.ensures.1 in
    rw p.1 (refl, c.take.ensures.after, gives_up (record { task = c.args.self.now.task; part = c.replace-part.new.dest; op = c.take.new.self }) c.replace-part.ensures.after)

pub returns-clause-ok : goal.returns-clause-ok
returns-clause-ok c =
    let s = c.args.self.now in
    rw (c.replace.ensures.after, c.replace-2.ensures.after)
    (goes_on s c.in_ok-part.part c.in_ok-part.op c.args.reply (c.in_ok-part.ensures.rest ∙ ap (λ part. fed (part_rest s.task part) c.args.reply) c.replace-part.ensures.value) c.in_ok-part.ensures.asks)

pub returns-clause-fewer : goal.returns-clause-fewer
returns-clause-fewer c =
    let fewer = rw c.replace-part.ensures.value at c.in_ok-part.ensures.fewer in
    rw c.replace.ensures.after (fewer_left c.args.self.now (record { task = c.args.self.now.task; part = c.in_ok-part.part; op = c.replace-2.new.dest }) fewer)

pub returns-clause-meter : goal.returns-clause-meter
returns-clause-meter c =
    c.in_ok-part.ensures.meter ∙ part_metered c.args.self.now c.replace-part.result (units_of c.args.self.now.task) c.args.reply c.args.meter.now c.replace-part.ensures.value c.requires.asks
