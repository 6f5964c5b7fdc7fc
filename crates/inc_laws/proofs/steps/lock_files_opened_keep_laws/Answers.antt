use Rattle.inc_fs.specs.declared.op.Op.TheVariants.{OpenLock}
use Rattle.inc_laws.proofs.Lasting.{did_keeps}
use Rattle.inc_laws.proofs.steps.lock_files_opened_keep_laws.Goals as goal

pub returns : goal.returns
returns c = λ krate entry. λ files events F G who reply l may step. did_keeps files events F G who (OpenLock krate entry) reply l may step
