use Rattle.std.proofs.Common.{◌≡◌, ◌<◌, ◌∷◌, ◌-◌, arith, drop, length, map, take, sym, ap, ◌∙◌, subst}
use Rattle.std.specs.List.{All}
use Rattle.std.proofs.lemmas.List.{length-drop, take_all}
use Rattle.inc_query.specs.Queries.{IsQuery}
use Rattle.plan_laws.specs.Assembled.{check_query, checks_of}
use Rattle.rs_plans.specs.Steps.{query, whole}
use Rattle.rs_queries.specs.Known.{place_of}
use Rattle.rs_build.specs.Over.{value_of}
use Rattle.rs_build.proofs.Roots.{are_queries, checks_are, first_roots, for_each, have_kinds}
use Rattle.rs_build.proofs.asking.ask_checks.Goals as goal

pub ask_all-requires-clause-kinds : goal.ask_all-requires-clause-kinds
ask_all-requires-clause-kinds c = (let are = c.as_slice.ensures.value ∙ c.in_ok-roots.ensures in subst (All (λ q. q.kind < 11)) (sym are) (have_kinds (whole 1 ∷ checks_of c.args.index.now) (first_roots c.args.index.now c.requires.names)))

pub ask_all-requires-clause-queries : goal.ask_all-requires-clause-queries
ask_all-requires-clause-queries c = (let are = c.as_slice.ensures.value ∙ c.in_ok-roots.ensures in subst (All IsQuery) (sym are) (are_queries (whole 1 ∷ checks_of c.args.index.now) (first_roots c.args.index.now c.requires.names)))

pub returns-clause-lines : goal.returns-clause-lines
returns-clause-lines c =
    let e = c.args.engine.now in
    let f = value_of e in
    let items = c.args.items.now in
    let index = c.args.index.now in
    let roots = c.as_slice.ensures.value ∙ c.in_ok-roots.ensures in
    for_each _ c.told_by.result (λ s. for_each _ c.told_by.result (λ over.
    let values = c.in_ok-values.ensures.values s over ∙ ap (map f) roots in
    let checks : drop 1 c.in_ok-values.values ≡ map (λ p. f (query 5 (place_of p))) items = ap (drop 1) values ∙ ap (λ xs. map f (map check_query xs)) c.requires.items ∙ checks_are f items in
    let vs = c.as_slice-2.result.now in
    let whole : take (length vs - 1) (drop 1 vs) ≡ drop 1 vs = take_all (length vs - 1) (drop 1 vs) (let long = length-drop 1 vs in omega (arith, long)) in
    c.told_by.ensures f (whole ∙ ap (drop 1) c.as_slice-2.ensures.value ∙ checks)))
