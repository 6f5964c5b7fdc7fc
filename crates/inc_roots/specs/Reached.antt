-- Which queries are asked where some are: these and what they read, and what that reads, on and on.
use Rattle.std.specs.Prelude.{ℕ, List, [], ◌∷◌}
use Rattle.std.proofs.Common.{zero, suc}
use Rattle.std.specs.List.{flat_map}
use Rattle.std.specs.Ordering.{match_ordering}
use Rattle.inc_query.specs.Queries.{query_cmp}
use Rattle.inc_query.specs.declared.query.Query.{Query}

-- a query, its reads, and theirs, n times over
abbrev pub reached_to : (Query → List Query) → ℕ → Query → List Query
reached_to reads zero q = q ∷ []
reached_to reads (suc n) q = q ∷ flat_map (reached_to reads n) (reads q)

-- reads are of lower kinds, so after as many times as its kind is there are no more
abbrev pub reached : (Query → List Query) → Query → List Query
reached reads q = reached_to reads q.kind q

-- from each of some roots
abbrev pub all_reached : (Query → List Query) → List Query → List Query
all_reached reads roots = flat_map (reached reads) roots

-- at its place in the order of queries, where it isn't there yet
abbrev pub put : Query → List Query → List Query
put q [] = q ∷ []
put q (r ∷ rs) = match_ordering (query_cmp q r) (q ∷ r ∷ rs) (r ∷ rs) (r ∷ put q rs)

-- in the order of queries, each once
abbrev pub in_order : List Query → List Query
in_order [] = []
in_order (q ∷ qs) = put q (in_order qs)
