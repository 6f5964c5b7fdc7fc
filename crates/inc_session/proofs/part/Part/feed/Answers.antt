use Rattle.std.proofs.Common.{◌∙◌, ap}
use Rattle.std.proofs.lemmas.Result.{IfOk-weaker, on_ok_weaker}
use Rattle.inc_plan.specs.Plan.{then}
use Rattle.inc_session.specs.Compiling.{units_of}
use Rattle.inc_session.specs.Naming.{naming}
use Rattle.inc_session.specs.Order.{after_naming}
use Rattle.inc_session.proofs.Parts.{naming_fed, fed_metered, saving_still}
use Rattle.inc_session.proofs.part.Part.feed.Goals as goal

pub returns-in-Ok-clause-rest : goal.returns-in-Ok-clause-rest
returns-in-Ok-clause-rest c =
    let job = c.args.task.now in
    let n = c.in-Naming.part in
    rw c.in-Naming.is
    (IfOk-weaker c.naming.result _ _ (λ part is. is ∙ ap (λ plan. then plan (after_naming job)) c.in-Ok.ensures.rest ∙ naming_fed job.krate (naming job.krate n.left) n.at (after_naming job) c.args.reply) c.naming.ensures.rest)

pub returns-in-Ok-clause-meter : goal.returns-in-Ok-clause-meter
returns-in-Ok-clause-meter c =
    let job = c.args.task.now in
    rw c.in-Naming.is
    (on_ok_weaker c.naming.result (λ is. is ∙ fed_metered (units_of job) c.args.meter.now job.krate c.in-Naming.part c.in-Ok.to c.args.reply (after_naming job) c.in-Ok.ensures.rest) c.naming.ensures.meter)

pub returns-in-Saving-clause-meter : goal.returns-in-Saving-clause-meter
returns-in-Saving-clause-meter c =
    let s = c.in-Saving.part in
    rw c.in-Saving.is (saving_still (units_of c.args.task.now) s.ops s.diags s.image s.units s.handle c.args.reply c.args.meter.now s.writes)
