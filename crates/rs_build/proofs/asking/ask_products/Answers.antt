use Rattle.std.proofs.Common.{◌<◌, map, sym, ap, ◌∙◌, subst}
use Rattle.std.specs.List.{All}
use Rattle.std.proofs.lemmas.Result.{IfOk-weaker}
use Rattle.inc_query.specs.Queries.{IsQuery}
use Rattle.plan_laws.specs.Assembled.{products_of}
use Rattle.rs_build.specs.Over.{value_of}
use Rattle.rs_build.proofs.Roots.{are_queries, have_kinds, last_roots}
use Rattle.rs_build.proofs.asking.ask_products.Goals as goal

pub ask_all-requires-clause-kinds : goal.ask_all-requires-clause-kinds
ask_all-requires-clause-kinds c = (let are = c.as_slice.ensures.value ∙ c.in_ok-roots.ensures in subst (All (λ q. q.kind < 11)) (sym are) (have_kinds (products_of c.args.index.now) (last_roots c.args.index.now c.requires.names)))

pub ask_all-requires-clause-queries : goal.ask_all-requires-clause-queries
ask_all-requires-clause-queries c = (let are = c.as_slice.ensures.value ∙ c.in_ok-roots.ensures in subst (All IsQuery) (sym are) (are_queries (products_of c.args.index.now) (last_roots c.args.index.now c.requires.names)))

pub returns-clause-values : goal.returns-clause-values
returns-clause-values c =
    let e = c.args.engine.now in
    let are = c.as_slice.ensures.value ∙ c.in_ok-roots.ensures in
    IfOk-weaker c.ask_all.result _ _ (λ vs given s over. given s over ∙ ap (map (value_of e)) are) c.ask_all.ensures.values
