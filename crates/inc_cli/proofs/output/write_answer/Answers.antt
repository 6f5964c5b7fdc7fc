use Rattle.std.proofs.Common.{refl, ◌∙◌}
use Rattle.inc_cli.specs.declared.status.Status.TheVariants.{SinkFault, OutOfMemory}
use Rattle.inc_cli.proofs.Building.{out_of_memory, wrote_part}
use Rattle.inc_cli.proofs.output.write_answer.Goals as goal

pub returns-in-Err : goal.returns-in-Err
returns-in-Err g c = λ words old new comes.
    (OutOfMemory, c.refuse.ensures.code, (out_of_memory words c.args.answer old new comes, record { line_is = c.refuse.ensures.line; image = refl; image_faults = refl }))

pub returns : goal.returns
returns g c = λ words old new comes.
    (SinkFault, c.code-in-Err-deliver.ensures, (c.args.answer, comes, wrote_part _ _ _ _ _ _ (c.as_slice.ensures.value ∙ c.in-Ok.ensures) c.image_of-bytes.ensures c.in-Err-deliver.ensures.err))
