-- A graph of queries that were asked from roots is the graph of these roots.
use Rattle.std.proofs.Common.{◌≡◌, ℕ, ◌+◌, zero, suc, ◌<◌, inl, inr, Bool, false, List, [], ◌∷◌, map, length, refl, sym, ◌∙◌, ap, subst, arith, if◌then◌else◌}
use Rattle.std.specs.Prelude.{slice_index_or}
use Rattle.std.specs.List.{All, AllByRecursion, Contains}
use Rattle.std.specs.List.Sorted.{IsStrictlySortedBy}
use Rattle.std.specs.Ordering.{eq_by_cmp}
use Rattle.std.proofs.lemmas.Bool.{false_from_ne_true}
use Rattle.std.proofs.lemmas.List.{length-map}
use Rattle.std.proofs.lemmas.List.Elements.{recursion_from_All}
use Rattle.std.proofs.lemmas.Map.Keys.{sorted_tail}
use Rattle.sha2.specs.Sha256.{sha256}
use Rattle.inc_query.specs.Plans.{Plan, ReadsFit, denote, reads_of}
use Rattle.inc_query.specs.Queries.{query_cmp}
use Rattle.inc_query.specs.QueryLaws.{queries_total}
use Rattle.inc_query.specs.declared.query.Query.{Query}
use Rattle.inc_graph.specs.Graphs.{IsGraph, IsLower, IsNode, queries_of}
use Rattle.inc_graph.specs.declared.node.Node.{Node}
use Rattle.inc_engine.specs.Builds.{IsBuildOf, at}
use Rattle.inc_engine.proofs.Apart.{same_queries}
use Rattle.inc_engine.proofs.Marks.{lower-within}
use Rattle.inc_roots.specs.Asked.{AreAsked, IsReachedFrom}
use Rattle.inc_roots.specs.Reached.{all_reached, in_order}
use Rattle.inc_roots.specs.Rooted.{graph_of, node_of, nodes_of, place_in, queries_from}
use Rattle.inc_roots.proofs.Closed.{IsClosed, all_closed, least, lower, reached_in, roots_in}
use Rattle.inc_roots.proofs.Members.{IsIn, in_from, of_any}
use Rattle.inc_roots.proofs.Sorted.{above, not_itself, one_list, order_ascends, order_from, order_has}

-- ---- Places in a list in order.

at_in : (qs : List Query) (i : ℕ) → i < length qs → IsIn qs (at qs i)
at_in [] i l = absurd (omega (arith, l))
at_in (q ∷ qs) zero l = inl refl
at_in (q ∷ qs) (suc i) l = inr (at_in qs i (omega (arith, l)))

-- the query at a place stands there
pub place_at : (qs : List Query) → IsStrictlySortedBy query_cmp qs → (i : ℕ) → i < length qs → place_in qs (at qs i) ≡ i
place_at [] s i l = absurd (omega (arith, l))
place_at (q ∷ qs) s zero l = ap (λ b. if b then 0 else place_in qs q + 1) ((same_queries q q).1 refl)
place_at (q ∷ qs) s (suc i) l =
    let below : i < length qs = omega (arith, l) in
    let apart : eq_by_cmp query_cmp (at qs i) q ≡ false = false_from_ne_true _ (λ e. not_itself queries_total q (at qs i) (above queries_total q qs s (at qs i) (at_in qs i below)) (sym ((same_queries (at qs i) q).0 e))) in
    let rest : place_in qs (at qs i) ≡ i = place_at qs (sorted_tail query_cmp q qs s) i below in
    ap (λ b. if b then 0 else place_in qs (at qs i) + 1) apart ∙ omega (arith, rest)

places_at : (qs : List Query) → IsStrictlySortedBy query_cmp qs → (is : List ℕ) → AllByRecursion (λ i. i < length qs) is → map (place_in qs) (map (at qs) is) ≡ is
places_at qs s [] h = refl
places_at qs s (i ∷ is) h = (let here = place_at qs s i h.0 in let rest = places_at qs s is h.1 in λ j. here j ∷ rest j)

-- ---- Nodes.

within : (nodes : List Node) (kind : ℕ) (is : List ℕ) → AllByRecursion (IsLower nodes kind) is → AllByRecursion (λ i. i < length (queries_of nodes)) is
within nodes kind [] h = tt
within nodes kind (i ∷ is) h = ((let l : i < length nodes = lower-within nodes kind i h.0 in let long = length-map nodes (λ (n : Node). n.query) in omega (arith, l, long)), within nodes kind is h.1)

read_in : (qs : List Query) (is : List ℕ) → AllByRecursion (λ i. i < length qs) is → (r : Query) → IsIn (map (at qs) is) r → IsIn qs r
read_in qs [] h r k = absurd k
read_in qs (i ∷ is) h r (inl e) = subst (IsIn qs) e (at_in qs i h.0)
read_in qs (i ∷ is) h r (inr k) = read_in qs is h.1 r k

node_is : (plan : Query → Plan) (input : List ℕ) (order : List Query) (n : Node) → n.print.0 ≡ sha256 (denote plan input n.query) → n.reads ≡ map (place_in order) (reads_of plan input n.query) → n ≡ node_of plan input order n.query
node_is plan input order n print reads = λ i. record { query = n.query; print = record { 0 = print i }; reads = reads i }

each_is : (f : Query → Node) (ns : List Node) → AllByRecursion (λ n. n ≡ f n.query) ns → ns ≡ map f (queries_of ns)
each_is f [] h = refl
each_is f (n ∷ ns) h = (let rest = each_is f ns h.1 in λ i. h.0 i ∷ rest i)

query_has : (P : Query → Type 0) (ns : List Node) → AllByRecursion (λ n. P n.query) ns → (q : Query) → IsIn (queries_of ns) q → P q
query_has P [] h q k = absurd k
query_has P (n ∷ ns) h q (inl e) = subst P e h.0
query_has P (n ∷ ns) h q (inr k) = query_has P ns h.1 q k

module _ (plan : Query → Plan) (kept : ℕ → Bool) (input : List ℕ) (roots : List Query) (nodes : List Node) (cache : List (ℕ × List ℕ)) (fits : (q : Query) → ReadsFit q [] (plan q)) (graph : IsGraph nodes) (build : IsBuildOf plan kept input nodes cache) (asked : AreAsked (reads_of plan input) roots (queries_of nodes)) where
  abbrev Reads : Node → Type 0
  Reads n = (r : Query) → IsIn (reads_of plan input n.query) r → IsIn (queries_of nodes) r

  reads_there : All Reads nodes
  reads_there k d l r h =
      let n = slice_index_or nodes k d in
      let its : IsNode nodes n = graph.each k d l in
      read_in (queries_of nodes) n.reads (within nodes n.query.kind n.reads (recursion_from_All (IsLower nodes n.query.kind) n.reads its.lower)) r (subst (λ l. IsIn l r) (sym (build.reads k d l)) h)

  closed : IsClosed (reads_of plan input) (queries_of nodes)
  closed q r h k = query_has (λ q. (r : Query) → IsIn (reads_of plan input q) r → IsIn (queries_of nodes) r) nodes (recursion_from_All Reads nodes reads_there) q h r k

  forth : (q : Query) → IsIn (queries_of nodes) q → IsIn (in_order (all_reached (reads_of plan input) roots)) q
  forth q h =
      let from = of_any (IsReachedFrom (reads_of plan input) roots) (queries_of nodes) q asked.reached h in
      order_has (all_reached (reads_of plan input) roots) q
      (reached_in (reads_of plan input) (all_reached (reads_of plan input) roots) (all_closed (reads_of plan input) (lower plan input fits) roots) from.0 q from.2 (roots_in (reads_of plan input) (lower plan input fits) roots from.0 (in_from roots from.0 from.1)))

  back : (q : Query) → IsIn (in_order (all_reached (reads_of plan input) roots)) q → IsIn (queries_of nodes) q
  back q h =
      least (reads_of plan input) roots (queries_of nodes) closed (λ r k. in_from (queries_of nodes) r (of_any (Contains (queries_of nodes)) roots r asked.there k)) q (order_from (all_reached (reads_of plan input) roots) q h)

  pub queries_are : queries_of nodes ≡ queries_from plan input roots
  unfolding queries_from
  queries_are = one_list queries_total (queries_of nodes) (in_order (all_reached (reads_of plan input) roots)) graph.ascend (order_ascends (all_reached (reads_of plan input) roots)) forth back

  reads_are : (k : ℕ) (d : Node) → k < length nodes → (slice_index_or nodes k d).reads ≡ map (place_in (queries_of nodes)) (reads_of plan input (slice_index_or nodes k d).query)
  reads_are k d l =
      let n = slice_index_or nodes k d in
      let its : IsNode nodes n = graph.each k d l in
      sym (places_at (queries_of nodes) graph.ascend n.reads (within nodes n.query.kind n.reads (recursion_from_All (IsLower nodes n.query.kind) n.reads its.lower))) ∙ ap (map (place_in (queries_of nodes))) (build.reads k d l)

  nodes_are : nodes ≡ nodes_of plan input (queries_of nodes)
  nodes_are = each_is (node_of plan input (queries_of nodes)) nodes (recursion_from_All (λ n. n ≡ node_of plan input (queries_of nodes) n.query) nodes (λ k d l. node_is plan input (queries_of nodes) (slice_index_or nodes k d) (build.prints k d l) (reads_are k d l)))

  pub graph_is : nodes ≡ graph_of plan input roots
  unfolding graph_of
  graph_is = nodes_are ∙ ap (nodes_of plan input) queries_are
