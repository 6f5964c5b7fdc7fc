use Rattle.inc_fs.specs.declared.op.Op.TheVariants.{Draw}
use Rattle.inc_laws.proofs.Lasting.{did_keeps}
use Rattle.inc_laws.proofs.steps.draws_keep_laws.Goals as goal

pub returns : goal.returns
returns c = λ files events F G who reply l may step. did_keeps files events F G who Draw reply l may step
