use Rattle.std.proofs.Common.{◌≡◌, ℕ, Bool, true, false, get_or, inl, inr, Vec, Global, ap, sym, subst, ◌∙◌}
use Rattle.std.specs.List.{Contains}
use Rattle.std.proofs.lemmas.List.Elements.{Contains-get_or}
use Rattle.rs_reach.specs.Cycles.{is_entering}
use Rattle.rs_reach.proofs.Round.{set_now}
use Rattle.rs_reach.proofs.cycles.enter.Goals as goal
use Rattle.rs_reach.proofs.cycles.enter.Goals.{then-named-len+then-is_entering, else-named-len}

pub loop-named-preserved : goal.loop-named-preserved
loop-named-preserved c = λ v e.
    (let its = c.args.its.now in
    let named = get_or its c.loop-named.named-index 0 in
    elim c.if-named-len.branch [
      | then-named-len+then-is_entering w ↦
          (let now = ap (λ (x : Vec Bool Global). get_or x.items v false) (sym w.entered-is) ∙ e in
          let steps : is_entering c.args.classes.now c.args.from named ≡ true = sym w.is_entering.ensures ∙ w.if-is_entering.true in
          elim (set_now c.loop-named.entered.items named v now) [
            | inl old ↦ c.loop-named.invariant v old
            | inr at ↦ inr (
              subst (λ (x : ℕ). Contains its x) (sym at) (Contains-get_or its c.loop-named.named-index 0 c.loop-named-test.true),
              subst (λ (x : ℕ). is_entering c.args.classes.now c.args.from x ≡ true) (sym at) steps,
            )
          ])
      | else-named-len w ↦ c.loop-named.invariant v (ap (λ (x : Vec Bool Global). get_or x.items v false) (sym w.entered-is) ∙ e)
    ])
