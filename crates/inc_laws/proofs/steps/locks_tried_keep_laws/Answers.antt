use Rattle.inc_fs.specs.declared.op.Op.TheVariants.{TryLock}
use Rattle.inc_laws.proofs.Lasting.{did_keeps}
use Rattle.inc_laws.proofs.steps.locks_tried_keep_laws.Goals as goal

pub returns : goal.returns
returns c = λ handle exclusive. λ files events F G who reply l may step. did_keeps files events F G who (TryLock handle exclusive) reply l may step
