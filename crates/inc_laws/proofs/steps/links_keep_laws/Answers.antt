use Rattle.inc_fs.specs.declared.op.Op.TheVariants.{Link}
use Rattle.inc_laws.proofs.Lasting.{did_keeps}
use Rattle.inc_laws.proofs.steps.links_keep_laws.Goals as goal

pub returns : goal.returns
returns c = λ krate from to file. λ files events F G who reply l may step. did_keeps files events F G who (Link krate from to file) reply l may step
