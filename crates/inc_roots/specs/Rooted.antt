-- The graph of an input, by the queries that are its roots, and the values kept of it.
use Rattle.std.specs.Prelude.{ℕ, ◌+◌, Bool, List, [], ◌∷◌, filter, length, map, if◌then◌else◌}
use Rattle.std.specs.List.{range_with_len}
use Rattle.std.specs.Ordering.{eq_by_cmp}
use Rattle.sha2.specs.Sha256.{sha256}
use Rattle.inc_query.specs.Queries.{query_cmp}
use Rattle.inc_query.specs.Plans.{Plan, denote, reads_of}
use Rattle.inc_query.specs.declared.query.Query.{Query}
use Rattle.inc_graph.specs.declared.node.Node.{Node}
use Rattle.inc_engine.specs.Builds.{at}
use Rattle.inc_roots.specs.Reached.{all_reached, in_order}

-- the queries of the graph: all that the roots reach, in order
unfoldable pub queries_from : (Query → Plan) → List ℕ → List Query → List Query
queries_from plan input roots = in_order (all_reached (reads_of plan input) roots)

-- where a query stands
abbrev pub place_in : List Query → Query → ℕ
place_in [] q = 0
place_in (r ∷ rs) q = if eq_by_cmp query_cmp q r then 0 else place_in rs q + 1

-- the node of a query: the print of its value, and where its reads stand
abbrev pub node_of : (Query → Plan) → List ℕ → List Query → Query → Node
node_of plan input order q = record { query = q; print = record { 0 = sha256 (denote plan input q) }; reads = map (place_in order) (reads_of plan input q) }

abbrev pub nodes_of : (Query → Plan) → List ℕ → List Query → List Node
nodes_of plan input order = map (node_of plan input order) order

-- the places of kept kinds
abbrev pub kept_places : (ℕ → Bool) → List Query → List ℕ
kept_places kept order = filter (λ i. kept (at order i).kind) (range_with_len 0 (length order))

-- the value of the query at a place, with the place
abbrev pub value_at : (Query → Plan) → List ℕ → List Query → ℕ → ℕ × List ℕ
value_at plan input order i = (i, denote plan input (at order i))

abbrev pub values_of : (Query → Plan) → (ℕ → Bool) → List ℕ → List Query → List (ℕ × List ℕ)
values_of plan kept input order = map (value_at plan input order) (kept_places kept order)

-- The graph of an input: each query that its roots reach, with its print and its reads.
unfoldable pub graph_of : (Query → Plan) → List ℕ → List Query → List Node
graph_of plan input roots = nodes_of plan input (queries_from plan input roots)

-- The values kept of it.
unfoldable pub cache_of : (Query → Plan) → (ℕ → Bool) → List ℕ → List Query → List (ℕ × List ℕ)
cache_of plan kept input roots = values_of plan kept input (queries_from plan input roots)
