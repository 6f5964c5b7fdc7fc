use Rattle.std.proofs.lemmas.Result.{IfOk-weaker, IfErr-weaker}
use Rattle.inc_cli.proofs.Publishing.{has_session, fails_session}
use Rattle.inc_cli.proofs.build.publish.Goals as goal

pub returns-in-Ok-visit-clause-ok : goal.returns-in-Ok-visit-clause-ok
returns-in-Ok-visit-clause-ok g c =
    IfOk-weaker c.answer_of.result _ _
    (λ answer outcome. has_session c.outcomes_have_causes.ensures c.args.job _ _ _ _ _ _ c.visit.new.session c.in-Ok-visit.ensures.task c.in-Ok-visit.ensures.ok answer outcome)
    c.answer_of.ensures.ok

pub returns-in-Ok-visit-clause-err : goal.returns-in-Ok-visit-clause-err
returns-in-Ok-visit-clause-err g c =
    IfErr-weaker c.answer_of.result _ _
    (λ status cause. fails_session c.outcomes_have_causes.ensures c.args.job _ _ _ _ _ _ c.visit.new.session c.in-Ok-visit.ensures.task c.in-Ok-visit.ensures.ok status cause)
    c.answer_of.ensures.err
