use Rattle.std.proofs.Common.{◌≡◌, ◌<◌, List, length, map, sym, ◌∙◌, ap, subst, arith, refl}
use Rattle.std.specs.Prelude.{IsPermutation, IsSorted}
use Rattle.std.specs.List.{All, AllByRecursion, Contains, count_by}
use Rattle.inc_query.specs.Queries.{query_cmp}
use Rattle.inc_query.specs.declared.query.Query.{Query}
use Rattle.inc_engine.specs.Builds.{at, Setup, setup, is_red}
use Rattle.inc_engine.specs.Marking.{asked, IsRight}
use Rattle.inc_engine.specs.declared.done.Done.{Done}
use Rattle.inc_engine.proofs.Finishes.{ordered-has, ordered-asked, length-ordered, graph_is, kinds_below, length-nodes, cache_is, has_kept, finished, count-asked, reads-ranked, kept-some}
use Rattle.inc_engine.proofs.finish.graph_of.Goals as goal

permuted : (memo entries : List Done) (order items : List Query) → entries ≡ memo → items ≡ order → IsPermutation (asked entries) order → IsPermutation (asked memo) items
permuted memo entries order items e f same = subst (λ x. IsPermutation (asked memo) x) (sym f) (subst (λ m. IsPermutation (asked m) order) e same)

pub ranks_of-requires-clause-few : goal.ranks_of-requires-clause-few
ranks_of-requires-clause-few g c =
    let perm = permuted c.args.memo.now _ _ _ c.as_slice-entries.ensures.value c.as_slice-queries.ensures.value c.in_ok-order.ensures.same in
    omega (arith, length-ordered c.args.memo.now perm, c.as_slice-entries.ensures.few)

pub ranks_of-requires-clause-sorted : goal.ranks_of-requires-clause-sorted
ranks_of-requires-clause-sorted g c = subst (IsSorted query_cmp) (sym c.as_slice-queries.ensures.value) c.in_ok-order.ensures.sorted

pub ranks_of-requires-clause-there : goal.ranks_of-requires-clause-there
ranks_of-requires-clause-there g c =
    let perm = permuted c.args.memo.now _ _ _ c.as_slice-entries.ensures.value c.as_slice-queries.ensures.value c.in_ok-order.ensures.same in
    let P : List Done → Type 0 = λ m. All (λ (d : Done). Contains c.as_slice-queries.result.now d.query) m in
    subst P (sym c.as_slice-entries.ensures.value) (ordered-has c.args.memo.now perm)

pub nodes_of-requires-clause-asked : goal.nodes_of-requires-clause-asked
nodes_of-requires-clause-asked g c =
    let perm = permuted c.args.memo.now _ _ _ c.as_slice-entries.ensures.value c.as_slice-queries.ensures.value c.in_ok-order.ensures.same in
    ordered-asked c.args.memo.now perm

pub nodes_of-requires-clause-are : goal.nodes_of-requires-clause-are
nodes_of-requires-clause-are g c = ap (map (at c.as_slice-queries.result.now)) c.as_slice.ensures.value ∙ c.in_ok-ranks.ensures.are ∙ ap asked c.as_slice-entries.ensures.value

pub nodes_of-requires-clause-ranks : goal.nodes_of-requires-clause-ranks
nodes_of-requires-clause-ranks g c = subst (AllByRecursion (λ i. i < length c.as_slice-queries.result.now)) (sym c.as_slice.ensures.value) c.in_ok-ranks.ensures.within

pub nodes_of-requires-clause-reads : goal.nodes_of-requires-clause-reads
nodes_of-requires-clause-reads g c =
    reads-ranked c.args.memo.now c.as_slice-queries.result.now _ c.requires.sound (ap (map (at c.as_slice-queries.result.now)) c.as_slice.ensures.value ∙ c.in_ok-ranks.ensures.are ∙ ap asked c.as_slice-entries.ensures.value)

pub cache_of-requires-clause-few : goal.cache_of-requires-clause-few
cache_of-requires-clause-few g c =
    let perm = permuted c.args.memo.now _ _ _ c.as_slice-entries.ensures.value c.as_slice-queries.ensures.value c.in_ok-order.ensures.same in
    omega (arith, length-ordered c.args.memo.now perm, c.as_slice-entries.ensures.few)

pub cache_of-requires-clause-asked : goal.cache_of-requires-clause-asked
cache_of-requires-clause-asked g c =
    let perm = permuted c.args.memo.now _ _ _ c.as_slice-entries.ensures.value c.as_slice-queries.ensures.value c.in_ok-order.ensures.same in
    ordered-asked c.args.memo.now perm

pub cache_of-requires-clause-kept : goal.cache_of-requires-clause-kept
cache_of-requires-clause-kept g c = kept-some c.args.memo.now c.requires.sound

pub work_of-work-requires-clause-graph : goal.work_of-work-requires-clause-graph
work_of-work-requires-clause-graph g c = c.requires.sound.graph

pub returns-clause-asked : goal.returns-clause-asked
returns-clause-asked g c =
    let perm = permuted c.args.memo.now _ _ _ c.as_slice-entries.ensures.value c.as_slice-queries.ensures.value c.in_ok-order.ensures.same in
    subst (λ x. IsPermutation (asked c.args.memo.now) x) (sym c.in_ok-nodes.ensures.queries) perm

pub returns-clause-graph : goal.returns-clause-graph
returns-clause-graph g c =
    let perm = permuted c.args.memo.now _ _ _ c.as_slice-entries.ensures.value c.as_slice-queries.ensures.value c.in_ok-order.ensures.same in
    let sorted = subst (IsSorted query_cmp) (sym c.as_slice-queries.ensures.value) c.in_ok-order.ensures.sorted in
    graph_is c.in_ok-nodes.nodes c.requires.sound perm sorted c.in_ok-nodes.ensures.queries c.in_ok-nodes.ensures.nodes

pub returns-clause-kinds : goal.returns-clause-kinds
returns-clause-kinds g c = kinds_below c.in_ok-nodes.nodes c.requires.sound c.in_ok-nodes.ensures.nodes

pub returns-clause-cache : goal.returns-clause-cache
returns-clause-cache g c = cache_is c.in_ok-nodes.nodes c.in_ok-cache.cache c.in_ok-nodes.ensures.queries c.in_ok-cache.ensures

pub returns-clause-kept : goal.returns-clause-kept
returns-clause-kept g c = has_kept c.in_ok-nodes.nodes c.in_ok-cache.cache c.in_ok-nodes.ensures.queries c.in_ok-cache.ensures

pub returns-clause-of : goal.returns-clause-of
returns-clause-of g c = λ s before. finished c.in_ok-nodes.nodes c.in_ok-cache.cache s c.requires.sound c.in_ok-nodes.ensures.queries c.in_ok-nodes.ensures.nodes c.in_ok-cache.ensures before

pub returns-clause-all : goal.returns-clause-all
returns-clause-all g c =
    let perm = permuted c.args.memo.now _ _ _ c.as_slice-entries.ensures.value c.as_slice-queries.ensures.value c.in_ok-order.ensures.same in
    c.work_of-work.ensures.all ∙ ap length c.as_slice-entries.ensures.value ∙ sym (length-nodes c.in_ok-nodes.nodes c.in_ok-nodes.ensures.queries ∙ length-ordered c.args.memo.now perm)

pub returns-clause-red : goal.returns-clause-red
returns-clause-red g c = λ s before.
    (let P = g.P.Providers in
    let b : Setup = setup (P.plan (P.setting c.args.p.now)) P.kept P.ticking P.height (P.input c.args.p.now) c.args.previous.now.graph c.args.previous.now.cache in
    let Right : List Done → Type 0 = λ m. All (IsRight b (asked m)) m in
    let right : Right c.as_slice-entries.result.now = subst Right (sym c.as_slice-entries.ensures.value) (c.requires.sound.right s before) in
    c.work_of-work.ensures.red b s refl before right ∙ ap (count_by (λ (d : Done). is_red b s d.query)) c.as_slice-entries.ensures.value ∙ sym (count-asked (is_red b s) c.args.memo.now))
