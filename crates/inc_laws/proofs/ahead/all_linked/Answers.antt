use Rattle.std.proofs.Common.{arith}
use Rattle.inc_laws.specs.Places.{linked_in}
use Rattle.inc_laws.proofs.Coming.{before_more, none_before}
use Rattle.inc_laws.proofs.ahead.all_linked.Goals as goal

pub loop-file-preserved : goal.loop-file-preserved
loop-file-preserved c =
    before_more (λ file. linked_in c.args.linkings.now c.args.end (c.args.from.now, file)) c.args.names.now c.loop-file.file-index c.file-item.result c.loop-file.last c.in_ok-at.at c.later_place-last.result
    (omega arith) c.file-item.is c.loop-file.invariant c.in_ok-at.ensures c.later_place-last.ensures

pub returns : goal.returns
returns c =
    none_before (λ file. linked_in c.args.linkings.now c.args.end (c.args.from.now, file)) c.args.names.now c.loop-file.file-index c.loop-file.last (omega arith) c.loop-file.invariant
