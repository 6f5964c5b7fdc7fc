use Rattle.std.proofs.Common.{arith}
use Rattle.inc_proto.proofs.Remaining.{with_none, with_next, with_all}
use Rattle.inc_proto.proofs.index.remains.add_dirs.Goals as goal

pub loop-name-init : goal.loop-name-init
loop-name-init c = with_none c.args.krate.now c.args.left.now

pub loop-name-preserved : goal.loop-name-preserved
loop-name-preserved c =
    with_next c.args.krate.now c.args.names.now c.loop-name.name-index c.name-item.result c.args.left.now c.loop-name.left c.add_dir.new.left (omega arith) c.name-item.is
    c.loop-name.invariant c.in_ok-add_dir.ensures

pub returns : goal.returns
returns c = with_all c.args.krate.now c.args.names.now c.loop-name.name-index c.args.left.now c.loop-name.left (omega arith) c.loop-name.invariant
