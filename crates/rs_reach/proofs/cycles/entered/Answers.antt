use Rattle.std.proofs.Common.{List, ℕ, Bool, get_or, false, ap, sym, subst, ◌∙◌, inl, inr}
use Rattle.std.specs.List.{Contains}
use Rattle.rs_reach.proofs.Round.{named_at, set_before}
use Rattle.rs_reach.proofs.cycles.entered.Goals as goal

pub loop-its-preserved : goal.loop-its-preserved
loop-its-preserved c = λ v e. c.loop-its.invariant v (set_before c.loop-its.entered.items v (ap (λ (xs : List Bool). get_or xs v false) (sym c.in_ok-push.ensures.items) ∙ e))

pub loop-from-preserved : goal.loop-from-preserved
loop-from-preserved c = λ v e.
    (let from = c.loop-from.from in
    let its = c.index-names-from.result in
    elim (c.enter.ensures v e) [
      | inl old ↦ c.loop-from.invariant v old
      | inr new ↦ record {
        from = from;
        names = its.items;
        listed = named_at c.args.names.now from its c.loop-from-test.true c.index-names-from.is;
        within = subst (λ (xs : List ℕ). Contains xs v) c.deref.ensures.value new.0;
        entering = new.1;
      }
    ])
