use Rattle.std.proofs.Common.{subst}
use Rattle.std.proofs.lemmas.Result.{IfOk-weaker}
use Rattle.rs_const.specs.State.{AreSettled, IsStuck, AreEnds}
use Rattle.rs_const.proofs.Ended.{ended}
use Rattle.rs_const.proofs.value.values_by.Goals as goal

pub returns : goal.returns
returns c =
    let known = c.args.known.now in
    let its = c.in_ok-its.its.items in
    let values = c.in_ok-settled.settled.items in
    let settled = subst (λ x. AreSettled known x values) c.deref.ensures.value c.in_ok-settled.ensures.settled in
    let stuck = subst (λ x. IsStuck x values) c.deref.ensures.value c.in_ok-settled.ensures.stuck in
    IfOk-weaker c.finished.result _ _
    (λ cs ends. ended known its c.in_ok-its.ensures values cs.items c.in_ok-settled.ensures.all settled stuck
    (subst (λ x. AreEnds x values cs.items) c.deref-2.ensures.value (subst (λ v. AreEnds c.deref-2.result.now v cs.items) c.deref-3.ensures.value ends)))
    c.finished.ensures
