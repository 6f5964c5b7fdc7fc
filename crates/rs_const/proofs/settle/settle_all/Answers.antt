use Rattle.std.proofs.Common.{◌≡◌, ◌+◌, true, length, ap, sym, subst, ◌∙◌, arith, None}
use Rattle.std.proofs.lemmas.List.{length-map}
use Rattle.rs_const.specs.State.{AreSettled, done, is_ready}
use Rattle.rs_const.proofs.Given.{none_done, done_le}
use Rattle.rs_const.proofs.Settling.{at_first, go_on}
use Rattle.rs_const.proofs.settle.settle_all.Goals as goal

pub settling-init : goal.settling-init
settling-init c =
    let known = c.args.known.now in
    let is = c.in_ok-values.ensures in
    record {
      counted = ap done is ∙ none_done known;
      long = ap length is ∙ length-map known (λ e. None);
      settled = subst (AreSettled known c.args.its.now) (sym is) (at_first known c.args.its.now);
    }

pub settling-preserved : goal.settling-preserved
settling-preserved c =
    let its = c.args.its.now in
    let at = c.in-Some.at in
    let ready : is_ready its c.settling.values.items at ≡ true = ap (λ vs. is_ready its vs at) (sym c.deref.ensures.value) ∙ c.in-Some.ensures.ready in
    let on = go_on c.args.known.now its c.settling.values.items c.settle.new.values.items at c.requires.names c.settling.invariant.settled ready c.settling.invariant.long c.in_ok-settle-in-Some.ensures in
    record {
      counted = on.0 ∙ ap (λ n. n + 1) c.settling.invariant.counted;
      long = on.1;
      settled = on.2;
    }

pub returns-clause-stuck : goal.returns-clause-stuck
returns-clause-stuck c = λ i. absurd (omega (arith, c.settling-test.false, c.settling.invariant.counted, c.settling.invariant.long, done_le c.settling.values.items))
