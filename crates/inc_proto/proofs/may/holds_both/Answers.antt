use Rattle.std.proofs.Common.{reverse, subst, IfOk, IsTrue, ◌↔◌, ℕ}
use Rattle.inc_proto.specs.Events.{Steps}
use Rattle.inc_proto.specs.Sought.{Holds}
use Rattle.inc_proto.specs.Views.{HasSeenBoth}
use Rattle.inc_proto.specs.declared.holds.Way.TheVariants.{Alone}
use Rattle.inc_proto.proofs.may.holds_both.Goals as goal

pub returns : goal.returns
returns c =
    let krate = c.args.krate.now in
    let from = c.args.from.now in
    let steps = reverse c.args.steps.now in
    let r = c.holds_so.result in
    subst (λ t. IfOk r (λ yes. IsTrue yes ↔ ((h : ℕ) × (after : Steps) × Holds Alone krate c.args.n steps h after × HasSeenBoth krate t from after)))
    c.in_ok-lock.ensures c.holds_so.ensures
