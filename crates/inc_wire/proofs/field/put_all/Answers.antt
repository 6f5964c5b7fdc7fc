use Rattle.std.proofs.Common.{arith}
use Rattle.inc_wire.proofs.Lists.{all_fit, list_written}
use Rattle.inc_wire.proofs.field.put_all.Goals as goal

pub returns-clause-bytes : goal.returns-clause-bytes
returns-clause-bytes g c = list_written g.T.Field.form c.args.to.now c.put_number.new.to c.loop-item.to c.args.items.now c.loop-item.item-index c.in_ok-put_number.ensures.ok c.loop-item.invariant.0 (omega arith)

pub returns-clause-range : goal.returns-clause-range
returns-clause-range g c = all_fit g.T.Field.fits c.args.items.now c.loop-item.item-index c.requires c.loop-item.invariant.1 (omega arith)
