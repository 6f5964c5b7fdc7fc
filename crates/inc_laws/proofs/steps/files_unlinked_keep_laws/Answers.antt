use Rattle.inc_fs.specs.declared.op.Op.TheVariants.{Unlink}
use Rattle.inc_laws.proofs.Lasting.{did_keeps}
use Rattle.inc_laws.proofs.steps.files_unlinked_keep_laws.Goals as goal

pub returns : goal.returns
returns c = λ krate entry file. λ files events F G who reply l may step. did_keeps files events F G who (Unlink krate entry file) reply l may step
