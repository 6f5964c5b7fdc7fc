use Rattle.std.proofs.Common.{arith}
use Rattle.inc_proto.proofs.Remaining.{locked_none, locked_next, locked_all}
use Rattle.inc_proto.proofs.index.remains.put_locks.Goals as goal

pub loop-name-init : goal.loop-name-init
loop-name-init c = locked_none c.args.krate.now c.args.at c.args.left.now

pub loop-name-preserved : goal.loop-name-preserved
loop-name-preserved c =
    locked_next c.args.krate.now c.args.names.now c.loop-name.name-index c.name-item.result c.args.at c.args.left.now c.loop-name.left c.put_lock.new.left (omega arith) c.name-item.is
    c.loop-name.invariant c.in_ok-put_lock.ensures

pub returns : goal.returns
returns c = locked_all c.args.krate.now c.args.names.now c.loop-name.name-index c.args.at c.args.left.now c.loop-name.left (omega arith) c.loop-name.invariant
