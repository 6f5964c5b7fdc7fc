use Rattle.inc_fs.specs.declared.op.Op.TheVariants.{Rename}
use Rattle.inc_laws.proofs.Lasting.{did_keeps}
use Rattle.inc_laws.proofs.steps.renames_keep_laws.Goals as goal

pub returns : goal.returns
returns c = λ krate from to. λ files events F G who reply l may step. did_keeps files events F G who (Rename krate from to) reply l may step
