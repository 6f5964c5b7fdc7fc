use Rattle.std.proofs.Common.{arith}
use Rattle.inc_products.proofs.Places.{none_ordered}
use Rattle.inc_products.proofs.named.Named.new.Goals as goal

pub invariant_of-result : goal.invariant_of-result
invariant_of-result g c = rw c.new.ensures.items (omega arith, none_ordered g.row.V.Denot)
