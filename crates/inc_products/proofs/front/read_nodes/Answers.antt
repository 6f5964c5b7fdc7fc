use Rattle.inc_products.proofs.Fronting.{nodes_there}
use Rattle.inc_products.proofs.front.read_nodes.Goals as goal

pub returns-in-Ok-Some : goal.returns-in-Ok-Some
returns-in-Ok-Some c = nodes_there c.args.bytes.now c.decode.result c.in-Ok-Some.field-0 c.in-Ok-Some.header c.in-Ok-Some.nodes c.in-Ok-Some.is c.in-Ok-Some.field-0-is c.decode.ensures
