use Rattle.std.proofs.Common.{refl}
use Rattle.std.proofs.lemmas.Result.{IfOk-weaker, IfErr-weaker}
use Rattle.inc_words.specs.declared.words.Command.TheVariants.{Build}
use Rattle.inc_cli.proofs.Building.{comes_to, is_refused, no_text}
use Rattle.inc_cli.proofs.build.build.Goals as goal

pub returns-in-Ok-clause-ok : goal.returns-in-Ok-clause-ok
returns-in-Ok-clause-ok g c = λ words asks.
    let laws = c.the_invariants_hold.ensures in
    IfOk-weaker c.publish.result _ _
    (λ answer session. comes_to words _ _ _ _ asks c.in-Ok.ensures.ok laws.names_once laws.held_exclusively laws.finalised_complete laws.newest_stands c.objects_link.ensures.clean answer session)
    c.publish.ensures.ok

pub returns-in-Ok-clause-err : goal.returns-in-Ok-clause-err
returns-in-Ok-clause-err g c = λ words asks.
    IfErr-weaker c.publish.result _ _ (λ status cause. is_refused words _ _ _ _ asks c.in-Ok.ensures.ok status cause) c.publish.ensures.err

pub returns-in-Err-clause-err : goal.returns-in-Err-clause-err
returns-in-Err-clause-err g c = λ words asks. no_text words (Build c.args.krate c.args.compiler) _ _ asks (record { dir = refl; faults = refl; meter = refl }) c.in-Err.status c.in-Err.ensures.err
