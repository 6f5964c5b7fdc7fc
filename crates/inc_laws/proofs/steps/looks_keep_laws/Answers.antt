use Rattle.inc_fs.specs.declared.op.Op.TheVariants.{Look}
use Rattle.inc_laws.proofs.Lasting.{did_keeps}
use Rattle.inc_laws.proofs.steps.looks_keep_laws.Goals as goal

pub returns : goal.returns
returns c = λ krate. λ files events F G who reply l may step. did_keeps files events F G who (Look krate) reply l may step
