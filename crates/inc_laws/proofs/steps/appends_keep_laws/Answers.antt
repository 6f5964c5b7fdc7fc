use Rattle.inc_fs.specs.declared.op.Op.TheVariants.{Append}
use Rattle.inc_laws.proofs.Lasting.{did_keeps}
use Rattle.inc_laws.proofs.steps.appends_keep_laws.Goals as goal

pub returns : goal.returns
returns c = λ krate entry file piece. λ files events F G who reply l may step. did_keeps files events F G who (Append krate entry file piece) reply l may step
