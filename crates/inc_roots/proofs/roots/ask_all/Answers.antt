use Rattle.std.proofs.Common.{◌≡◌, ◌++◌, [], ◌∷◌, drop, length, map, take, sym, ap, ◌∙◌, subst, arith, length-append}
use Rattle.std.specs.List.{count_by}
use Rattle.std.proofs.lemmas.List.{map-append, take_all, take_more}
use Rattle.inc_query.specs.Plans.{denote}
use Rattle.inc_query.specs.Ticks.{rise}
use Rattle.inc_engine.specs.Builds.{Asks, Before, Build, Setup, setup, stale}
use Rattle.inc_roots.specs.Asked.{AsksAll}
use Rattle.inc_roots.proofs.Asking.{asked_more, asked_none, ticked_more, ticked_none}
use Rattle.inc_roots.proofs.roots.ask_all.Goals as goal

pub loop-root-init : goal.loop-root-init
loop-root-init g c =
    let P = g.P.Providers in
    let e = c.args.engine.now in
    let b = setup (P.plan e.setting) P.kept P.ticking P.height e.input e.nodes e.cache in
    record {
      many = ap length c.new-values.ensures;
      values_are = λ s before. c.new-values.ensures;
      asks = asked_none b e.asked;
      ticks = λ s before kept. ticked_none (stale b s) (g.P.Tick.Tally.count c.args.meter.now) e.asked;
      same = cc;
    }

pub loop-root-preserved : goal.loop-root-preserved
loop-root-preserved g c =
    let P = g.P.Providers in
    let of : Build → Setup = λ x. setup (P.plan x.setting) P.kept P.ticking P.height x.input x.nodes x.cache in
    let o = c.args.engine.now in
    let e = c.loop-root.engine in
    let n = c.get.new.self in
    let q = c.root-item.result in
    let v = c.in_ok-value.value in
    let roots = c.args.roots.now in
    let i = c.loop-root.root-index in
    let all = c.loop-root.invariant.asks in
    let same = c.loop-root.invariant.same in
    let got = c.in_ok-value.ensures in
    let front = take_more roots i q c.loop-root-test.true ∙ ap (λ r. take i roots ++ r ∷ []) (sym c.root-item.is) in
    let one : Asks (of o) q e.asked n.asked = subst (λ b. Asks b q e.asked n.asked) (ap of same) got.asks in
    let f = denote (P.plan o.setting) o.input in
    let start = g.P.Tick.Tally.count c.args.meter.now in
    let from = g.P.Tick.Tally.count c.loop-root.meter in
    let to = g.P.Tick.Tally.count c.get.new.meter in
    record {
      many = (let long = ap length c.in_ok-push.ensures.ok in let parts = length-append c.loop-root.values (v ∷ []) in omega (arith, long, parts, c.loop-root.invariant.many));
      values_are = λ s before.
          let Is : Build → Type 0 = λ x. Before (of x) s → v ≡ denote (P.plan x.setting) x.input q in
          let value : v ≡ f q = subst Is same (got.value s) before in
          c.in_ok-push.ensures.ok ∙ ap (λ vs. vs ++ v ∷ []) (c.loop-root.invariant.values_are s before) ∙ ap (λ w. map f (take i roots) ++ w ∷ []) value
          ∙ sym (map-append f (take i roots) (q ∷ [])) ∙ ap (map f) (sym front);
      asks = subst (λ rs. AsksAll (of o) rs o.asked n.asked) (sym front) (asked_more (of o) (take i roots) q o.asked e.asked n.asked all one);
      ticks = λ s before kept.
          let Is : Build → Type 0 = λ x. Before (of x) s → to ≡ rise from (count_by (stale (of x) s) (drop (length e.asked) n.asked)) in
          let step = subst Is same (λ b. got.ticks s b kept) before in
          ticked_more (stale (of o) s) start from to o.asked all.more one.more n.asked (one.are ∙ ap (λ qs. qs ++ one.more) all.are)
          (c.loop-root.invariant.ticks s before kept ∙ ap (λ qs. rise start (count_by (stale (of o) s) (drop (length o.asked) qs))) all.are)
          (step ∙ ap (λ qs. rise from (count_by (stale (of o) s) (drop (length qs) n.asked))) all.are);
      same = got.same ∙ ap (λ (x : Build). record { setting = x.setting; input = x.input; nodes = x.nodes; cache = x.cache; asked = n.asked; failed = n.failed }) same;
    }

pub returns-clause-values : goal.returns-clause-values
returns-clause-values g c =
    let P = g.P.Providers in
    let o = c.args.engine.now in
    λ s before. c.loop-root.invariant.values_are s before ∙ ap (map (denote (P.plan o.setting) o.input)) (take_all c.loop-root.root-index c.args.roots.now c.loop-root-test.false)
