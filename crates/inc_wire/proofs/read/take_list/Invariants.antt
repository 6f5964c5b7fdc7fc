use Rattle.std.proofs.Common.{◌-◌, length}
use Rattle.inc_wire.proofs.Taking.{IsUnderWay}
use Rattle.inc_wire.proofs.read.take_list.Given as goal

abbrev pub invariant-each : goal.invariant-each
invariant-each g l = IsUnderWay g.T.Read.fits g.T.Read.form l.count l.initial.from l.from l.items

abbrev pub decreases-each : goal.decreases-each
decreases-each g l = l.count - length l.items
