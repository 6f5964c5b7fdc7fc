use Rattle.std.proofs.Common.{◌≡◌, ◌-◌, ◌+◌, ◌<◌, length, arith}
use Rattle.inc_laws.proofs.Coming.{ahead_more}
use Rattle.inc_laws.proofs.ahead.told_ahead.Goals as goal

pub loop-at-preserved : goal.loop-at-preserved
loop-at-preserved c =
    let next : c.loop-at.at ≡ (c.loop-at.at - 1) + 1 = omega arith in
    let within : c.loop-at.at - 1 < length c.args.steps.now = omega arith in
    let more = ahead_more c.args.krate.now c.args.steps.now c.loop-at.at (c.loop-at.at - 1) c.index-steps-at.result c.loop-at.closings c.note_closing.new.closings c.loop-at.linkings c.note_linking.new.linkings
    c.loop-at.fars.items c.push.new.self.items c.in_ok-far_of.field-0 next within c.index-steps-at.is c.loop-at.invariant.tells c.loop-at.invariant.fars c.in_ok-far_of.ensures
    c.in_ok-push.ensures.items c.in_ok-note_closing.ensures c.in_ok-note_linking.ensures in
    record { tells = more.0; fars = more.1 }
