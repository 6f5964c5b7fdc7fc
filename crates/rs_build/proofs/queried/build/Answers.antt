use Rattle.std.proofs.Common.{◌≡◌, ◌≤◌, List, [], ℕ, drop, length, sym, ap, ◌∙◌, subst}
use Rattle.std.specs.Prelude.{IsPermutation}
use Rattle.std.specs.List.{count_by}
use Rattle.inc_query.specs.Ticks.{rise}
use Rattle.inc_query.specs.declared.query.Query.{Query}
use Rattle.inc_graph.specs.Graphs.{queries_of}
use Rattle.inc_engine.specs.Builds.{Build, stale}
use Rattle.inc_roots.specs.Asked.{AsksAll}
use Rattle.inc_roots.specs.Rooted.{cache_of, graph_of}
use Rattle.rs_text.specs.Text.{text_of}
use Rattle.rs_queries.specs.Built.{IsCompiled, emitted}
use Rattle.rs_plans.specs.Plans.{plan_of}
use Rattle.rs_provider.specs.Kept.{is_kept}
use Rattle.plan_laws.specs.Assembled.{roots_read}
use Rattle.rs_build.specs.Over.{IsOver, IsReached, IsReadAssembled, begun, kept_values, reached_graph, roots_of, setting_of, setup_of, value_of}
use Rattle.rs_build.proofs.Reaches.{compiled_is, counted}
use Rattle.rs_build.proofs.Anew.{all_counted}
use Rattle.rs_build.proofs.Trees.{ok_of_three, ok_weaker}
use Rattle.rs_build.proofs.queried.build.Goals as goal

pub returns-in-Ok-clause-compiled : goal.returns-in-Ok-clause-compiled
returns-in-Ok-clause-compiled c =
    let p = c.args.provider in
    let b = begun p.text p.compiler c.args.graph c.args.cache in
    let is = c.with_previous-engine.ensures in
    ok_weaker (λ q. q.compiled ≡ c.in-Ok.compiled) (λ q. (s : List ℕ) → IsOver b s → length p.text ≤ 1048576 → IsCompiled p.text p.compiler.level q.compiled) c.finished.result
    (λ q same s over short.
    subst (IsCompiled p.text p.compiler.level) (sym same)
    (compiled_is c.builds_by_queries_are_clean.ensures.whole (setting_of p.compiler) p.text c.in-Ok.compiled (c.texts_fit.ensures p.text p.compiler.level short)
    (subst (λ f. IsReadAssembled (value_of f) f.input p.compiler.level c.in-Ok.compiled) is (c.in-Ok.ensures.compiled s (subst (λ f. IsOver f s) (sym is) over)))))
    c.finished.ensures.compiled

pub returns-in-Ok-clause-graph : goal.returns-in-Ok-clause-graph
returns-in-Ok-clause-graph c =
    let p = c.args.provider in
    let b = begun p.text p.compiler c.args.graph c.args.cache in
    let is = c.with_previous-engine.ensures in
    let new = c.compiled_read.new.engine in
    let roots = roots_of p.compiler p.text in
    let from : new ≡ record b { asked = new.asked; failed = new.failed } = c.in-Ok.ensures.same ∙ ap {A = Build} {B = Build} (λ f. record f { asked = new.asked; failed = new.failed }) is in
    ok_weaker (λ q. (s : List ℕ) (rs : List Query) → IsOver new s → AsksAll (setup_of new) rs [] new.asked → IsReached new rs q.graph q.cache) (λ q. (s : List ℕ) → IsOver b s → q.graph ≡ reached_graph p.compiler p.text) c.finished.result
    (λ q reached s over.
    let asks = subst (λ f. AsksAll (setup_of f) (roots_read (value_of f) (text_of f.input)) f.asked new.asked) is (c.in-Ok.ensures.asked s (subst (λ f. IsOver f s) (sym is) over)) in
    (reached s roots (subst (λ f. IsOver f s) (sym from) over) (subst (λ f. AsksAll (setup_of f) roots [] new.asked) (sym from) asks)).graph_is ∙ ap (λ f. graph_of (plan_of f.setting) f.input roots) from)
    c.finished.ensures.is

pub returns-in-Ok-clause-cache : goal.returns-in-Ok-clause-cache
returns-in-Ok-clause-cache c =
    let p = c.args.provider in
    let b = begun p.text p.compiler c.args.graph c.args.cache in
    let is = c.with_previous-engine.ensures in
    let new = c.compiled_read.new.engine in
    let roots = roots_of p.compiler p.text in
    let from : new ≡ record b { asked = new.asked; failed = new.failed } = c.in-Ok.ensures.same ∙ ap {A = Build} {B = Build} (λ f. record f { asked = new.asked; failed = new.failed }) is in
    ok_weaker (λ q. (s : List ℕ) (rs : List Query) → IsOver new s → AsksAll (setup_of new) rs [] new.asked → IsReached new rs q.graph q.cache) (λ q. (s : List ℕ) → IsOver b s → q.cache ≡ kept_values p.compiler p.text) c.finished.result
    (λ q reached s over.
    let asks = subst (λ f. AsksAll (setup_of f) (roots_read (value_of f) (text_of f.input)) f.asked new.asked) is (c.in-Ok.ensures.asked s (subst (λ f. IsOver f s) (sym is) over)) in
    (reached s roots (subst (λ f. IsOver f s) (sym from) over) (subst (λ f. AsksAll (setup_of f) roots [] new.asked) (sym from) asks)).cache_is ∙ ap (λ f. cache_of (plan_of f.setting) is_kept f.input roots) from)
    c.finished.ensures.is

pub returns-in-Ok-clause-ticked : goal.returns-in-Ok-clause-ticked
returns-in-Ok-clause-ticked c =
    let p = c.args.provider in
    let b = begun p.text p.compiler c.args.graph c.args.cache in
    let is = c.with_previous-engine.ensures in
    let asked = c.compiled_read.new.engine.asked in
    let from = c.args.meter.now in
    ok_weaker (λ q. IsPermutation asked (queries_of q.graph)) (λ q. (s : List ℕ) → IsOver b s → c.compiled_read.new.meter ≡ rise from (count_by (stale (setup_of b) s) (queries_of q.graph))) c.finished.result
    (λ q moved s over.
    c.in-Ok.ensures.ticked s (subst (λ f. IsOver f s) (sym is) over)
    ∙ ap (λ f. rise from (count_by (stale (setup_of f) s) (drop (length f.asked) asked))) is
    ∙ ap (rise from) (counted (stale (setup_of b) s) asked (queries_of q.graph) moved))
    c.finished.ensures.asked

pub returns-in-Ok-clause-fresh : goal.returns-in-Ok-clause-fresh
returns-in-Ok-clause-fresh c =
    let p = c.args.provider in
    let b = begun p.text p.compiler c.args.graph c.args.cache in
    let is = c.with_previous-engine.ensures in
    let made = c.in-Ok.compiled in
    let from = c.args.meter.now in
    let to = c.compiled_read.new.meter in
    ok_of_three (λ q. q.compiled ≡ made) (λ q. (s : List ℕ) → IsOver b s → q.graph ≡ reached_graph p.compiler p.text)
    (λ q. (s : List ℕ) → IsOver b s → to ≡ rise from (count_by (stale (setup_of b) s) (queries_of q.graph)))
    (λ q. c.args.graph ≡ [] → c.args.cache ≡ [] → to ≡ rise from (emitted q.compiled)) c.finished.result
    (λ q same graph ticked none no_values.
    all_counted c.fresh_builds_make_all.ensures.over c.fresh_builds_make_all.ensures.made p.compiler p.text c.args.graph c.args.cache q.graph from to made none no_values
    (λ s over. subst (λ f. IsReadAssembled (value_of f) f.input p.compiler.level made) is (c.in-Ok.ensures.compiled s (subst (λ f. IsOver f s) (sym is) over))) graph ticked
    ∙ ap (λ d. rise from (emitted d)) (sym same))
    c.finished.ensures.compiled (returns-in-Ok-clause-graph c) (returns-in-Ok-clause-ticked c)
