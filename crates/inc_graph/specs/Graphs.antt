-- What the nodes of a graph are together, and the values that are kept of it.
use Rattle.std.specs.Prelude.{◌≡◌, ℕ, ◌<◌, nat_eq, List, Some, All, map, slice_get, length}
use Rattle.std.specs.List.{IsDistinct}
use Rattle.std.specs.List.Sorted.{IsStrictlySortedBy}
use Rattle.std.specs.Ordering.{nat_cmp}
use Rattle.inc_query.specs.Queries.{IsQuery, query_cmp}
use Rattle.inc_query.specs.declared.query.Query.{Query}
use Rattle.inc_graph.specs.declared.node.Node.{Node}

-- a read is the position of a node of a lower kind
pub record IsLower (nodes : List Node) (kind read : ℕ) : Type 0 where
  pub node : Node
  pub there : slice_get nodes read ≡ Some node
  pub lower : node.query.kind < kind

abbrev pub HasQuery : Node → Type 0
HasQuery node = IsQuery node.query

-- A node has a query of the form that graphs have. Its reads are nodes of lower kinds, and none is read twice.
pub record IsNode (nodes : List Node) (node : Node) : Type 0 where
  pub query : IsQuery node.query
  pub lower : All (IsLower nodes node.query.kind) node.reads
  pub differ : IsDistinct nat_eq node.reads

abbrev pub queries_of : List Node → List Query
queries_of nodes = map (λ node. node.query) nodes

-- nodes ascend strictly by kind, module and name
pub record IsGraph (nodes : List Node) : Type 0 where
  pub ascend : IsStrictlySortedBy query_cmp (queries_of nodes)
  pub each : All (IsNode nodes) nodes

-- where values stand
abbrev pub positions_of : List (ℕ × List ℕ) → List ℕ
positions_of values = map (λ value. value.0) values

-- values stand in the order of their positions, one at each
abbrev pub HasOrder : List (ℕ × List ℕ) → Type 0
HasOrder values = IsStrictlySortedBy nat_cmp (positions_of values)

-- values are of nodes of the graph
pub record IsCache (nodes : List Node) (values : List (ℕ × List ℕ)) : Type 0 where
  pub ascend : HasOrder values
  pub within : All (λ value. value.0 < length nodes) values
