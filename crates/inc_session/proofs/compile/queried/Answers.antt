use Rattle.std.proofs.Common.{◌≤◌, ◌∙◌, [], length, sym, ap, subst}
use Rattle.std.proofs.lemmas.Result.{IfOk-weaker}
use Rattle.inc_base.specs.declared.job.Compiler.{Compiler}
use Rattle.inc_graph.specs.Graphs.{IsCache, IsGraph}
use Rattle.rs_queries.specs.Built.{IsCompiled}
use Rattle.rs_build.specs.Over.{kept_values, reached_graph}
use Rattle.inc_session.proofs.Nothing.{no_cache, no_graph, over_nothing}
use Rattle.inc_session.proofs.compile.queried.Goals as goal

pub build-requires-clause-graph : goal.build-requires-clause-graph
build-requires-clause-graph c = subst IsGraph (sym c.new.ensures) no_graph

pub build-requires-clause-cache : goal.build-requires-clause-cache
build-requires-clause-cache c = subst (λ nodes. IsCache nodes c.new-2.result) (sym c.new.ensures) (subst (IsCache []) (sym c.new-2.ensures) no_cache)

pub returns-clause-short : goal.returns-clause-short
returns-clause-short c =
    let job = c.args.job.now in
    let p = c.in_ok-provider.provider in
    let same = c.in_ok-provider.ensures in
    IfOk-weaker c.build.result _ _
    (λ q is short.
    subst (λ text. IsCompiled text job.compiler.level q.compiled) same.text
    (subst (λ (compiler : Compiler). IsCompiled p.text compiler.level q.compiled) same.compiler
    (is [] (over_nothing c.fresh_builds_make_all.ensures.over p.text p.compiler c.new.result c.new-2.result c.new.ensures c.new-2.ensures) (subst (λ text. length text ≤ 1048576) (sym same.text) short))))
    c.build.ensures.compiled

pub returns-clause-graph : goal.returns-clause-graph
returns-clause-graph c =
    let job = c.args.job.now in
    let p = c.in_ok-provider.provider in
    let same = c.in_ok-provider.ensures in
    IfOk-weaker c.build.result _ _
    (λ q is.
    is [] (over_nothing c.fresh_builds_make_all.ensures.over p.text p.compiler c.new.result c.new-2.result c.new.ensures c.new-2.ensures)
    ∙ ap (reached_graph p.compiler) same.text ∙ ap (λ compiler. reached_graph compiler job.text) same.compiler)
    c.build.ensures.graph

pub returns-clause-cache : goal.returns-clause-cache
returns-clause-cache c =
    let job = c.args.job.now in
    let p = c.in_ok-provider.provider in
    let same = c.in_ok-provider.ensures in
    IfOk-weaker c.build.result _ _
    (λ q is.
    is [] (over_nothing c.fresh_builds_make_all.ensures.over p.text p.compiler c.new.result c.new-2.result c.new.ensures c.new-2.ensures)
    ∙ ap (kept_values p.compiler) same.text ∙ ap (λ compiler. kept_values compiler job.text) same.compiler)
    c.build.ensures.cache
