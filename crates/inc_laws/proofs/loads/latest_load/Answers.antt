use Rattle.std.proofs.Common.{arith}
use Rattle.inc_laws.proofs.Sought.{sought_more}
use Rattle.inc_laws.proofs.loads.latest_load.Goals as goal

pub loop-step-preserved : goal.loop-step-preserved
loop-step-preserved c =
    let more = sought_more c.args.krate.now c.args.steps.now c.loop-step.step-index c.step-item.result c.loop-step.fars.items c.next_far-far.new.fars.items c.next_far-far.result
    c.loop-step.search.opened c.note_step.new.search.opened c.loop-step.search.until c.note_step.new.search.until c.loop-step.search.found c.note_step.new.search.found
    (omega arith) c.step-item.is c.requires c.loop-step.invariant.sought c.loop-step.invariant.far c.next_far-far.ensures c.in_ok-note_step.ensures in
    record { sought = more.0; far = more.1 }
