use Rattle.std.proofs.Common.{arith}
use Rattle.inc_proto.proofs.Lasts.{lists_none, lists_newer_more, lists_newer_all}
use Rattle.inc_proto.proofs.index.lasts.newest_of.Goals as goal

pub loop-name-init : goal.loop-name-init
loop-name-init c = λ n. lists_none n _

pub loop-name-preserved : goal.loop-name-preserved
loop-name-preserved c = λ n.
    lists_newer_more c.args.names.now c.loop-name.name-index c.name-item.result n c.args.before c.loop-name.newest c.newest_with-newest.result (omega arith) c.name-item.is (c.loop-name.invariant n) (c.newest_with-newest.ensures n)

pub returns : goal.returns
returns c = λ n. lists_newer_all c.args.names.now c.loop-name.name-index n (omega arith) (c.loop-name.invariant n)
