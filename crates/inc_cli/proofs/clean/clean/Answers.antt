use Rattle.std.proofs.Common.{refl}
use Rattle.inc_words.specs.declared.words.Command.TheVariants.{Clean}
use Rattle.inc_cli.proofs.Building.{has_cleaned, no_text}
use Rattle.inc_cli.proofs.clean.clean.Goals as goal

pub returns-in-Ok-clean_read-clause-ok : goal.returns-in-Ok-clean_read-clause-ok
returns-in-Ok-clean_read-clause-ok g c = λ words dir faults meter asks.
    has_cleaned c.objects_link.ensures.clean words c.args.compiler _ _ _ _ _ asks c.in-Ok.ensures.ok (record { dir = refl; faults = refl; meter = refl })
    (c.in-Ok-clean_read.ensures _ c.in-Ok.ensures.ok.is)

pub returns-in-Err-clause-err : goal.returns-in-Err-clause-err
returns-in-Err-clause-err g c = λ words dir faults meter asks. no_text words (Clean c.args.compiler) _ _ asks (record { dir = refl; faults = refl; meter = refl }) c.in-Err.status c.in-Err.ensures.err
