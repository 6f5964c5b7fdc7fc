use Rattle.std.proofs.Common.{arith}
use Rattle.rs_reach.proofs.Called.{called_more}
use Rattle.rs_reach.proofs.calls.called_numbers.Goals as goal

pub loop-i-preserved : goal.loop-i-preserved
loop-i-preserved c =
    called_more c.args.places.now c.args.marks.now c.args.found.now c.loop-i.i c.loop-i.its.items c.push_called.new.to.items _ c.index-found-i.result (omega arith) (omega arith) c.index-found-i.is
    (c.in_ok-push_called.ensures {u = tt}) c.loop-i.invariant
