use Rattle.std.proofs.Common.{◌+◌, ℕ, Bool, inl, inr, length, length-append, ap, sym, subst, ◌∙◌}
use Rattle.std.specs.Prelude.{◌↔◌, IsTrue, slice_get}
use Rattle.rs_reach.specs.Reached.{IsReachedFrom}
use Rattle.rs_reach.specs.Cycles.{AllFit}
use Rattle.rs_reach.proofs.Round.{got_pushed}
use Rattle.rs_reach.proofs.cycles.in_cycles.Goals as goal

pub loop-at-preserved : goal.loop-at-preserved
loop-at-preserved c =
    let marks = c.loop-at.marks.items in
    let its = c.args.names.now in
    let last = c.in_ok-is_cyclic.field-0 in
    let items = c.in_ok-push.ensures.items in
    let sound : IsTrue c.all_fit-sorted.result → AllFit its c.in_ok-classes.classes c.in_ok-entered.entered.items = λ t. subst (AllFit its c.in_ok-classes.classes) c.deref.ensures.value (c.all_fit-sorted.ensures t) in
    let here : IsTrue last ↔ IsReachedFrom its c.loop-at.at c.loop-at.at = c.in_ok-is_cyclic.ensures c.in_ok-entered.entered.items c.in_ok-entered.ensures sound in
    record {
      all = ap length items ∙ length-append marks _ ∙ ap (λ n. n + 1) c.loop-at.invariant.all;
      each = λ i b is. elim (got_pushed marks last b i (ap (λ vs. slice_get vs i) (sym items) ∙ is)) [
        | inl h ↦ c.loop-at.invariant.each i b h
        | inr h ↦
            (let at = h.0 ∙ c.loop-at.invariant.all in
            subst (λ (x : Bool). IsTrue x ↔ IsReachedFrom its i i) h.1 (subst (λ (j : ℕ). IsTrue last ↔ IsReachedFrom its j j) (sym at) here))
      ];
    }
