use Rattle.inc_products.proofs.Whole.{whole_loaded}
use Rattle.inc_products.proofs.load.load.Goals as goal

pub returns-in-Ok-Whole : goal.returns-in-Ok-Whole
returns-in-Ok-Whole c =
    whole_loaded c.args.want.now c.args.nodes c.args.set.now c.load_values.result c.in-Ok-Whole.field-0 c.in-Ok-Whole.values c.requires.graph c.in-Ok-Whole.is c.in-Ok-Whole.field-0-is c.load_values.ensures
