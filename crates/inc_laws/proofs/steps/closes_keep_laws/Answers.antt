use Rattle.inc_fs.specs.declared.op.Op.TheVariants.{Close}
use Rattle.inc_laws.proofs.Lasting.{did_keeps}
use Rattle.inc_laws.proofs.steps.closes_keep_laws.Goals as goal

pub returns : goal.returns
returns c = λ handle. λ files events F G who reply l may step. did_keeps files events F G who (Close handle) reply l may step
