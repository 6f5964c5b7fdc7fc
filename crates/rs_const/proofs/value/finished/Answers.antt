use Rattle.std.proofs.Common.{◌+◌, inl, inr, length, length-append, ap, sym, subst, ◌∙◌}
use Rattle.std.specs.Prelude.{slice_get}
use Rattle.rs_reach.specs.Cycles.{AreCyclic}
use Rattle.rs_reach.proofs.Round.{got_pushed}
use Rattle.rs_const.specs.State.{IsEnd}
use Rattle.rs_const.proofs.Ended.{end_is}
use Rattle.rs_const.proofs.value.finished.Goals as goal

pub loop-at-preserved : goal.loop-at-preserved
loop-at-preserved c =
    let values = c.loop-at.values.items in
    let its = c.args.its.now in
    let last = c.end.result in
    let items = c.in_ok-push.ensures.items in
    let cyclic = subst (AreCyclic its) (sym c.deref-in-loop-at.ensures.value) c.in_ok-cyclic.ensures in
    record {
      all = ap length items ∙ length-append values _ ∙ ap (λ n. n + 1) c.loop-at.invariant.all;
      each = λ i v o is at. elim (got_pushed values last v i (ap (λ vs. slice_get vs i) (sym items) ∙ is)) [
        | inl h ↦ c.loop-at.invariant.each i v o h at
        | inr h ↦
            (let here = h.0 ∙ c.loop-at.invariant.all in
            let ended = end_is its c.deref-in-loop-at.result.now cyclic c.loop-at.at o last (c.end.ensures o (ap (slice_get c.args.settled.now) (sym here) ∙ at)) in
            subst (IsEnd its i o) h.1 (subst (λ j. IsEnd its j o last) (sym here) ended))
      ];
    }
