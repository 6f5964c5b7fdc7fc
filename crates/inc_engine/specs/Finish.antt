-- What is made of the entries at the end.
use Rattle.std.specs.Prelude.{◌≡◌, ◌≢◌, ℕ, ◌<◌, ◌↔◌, ◌⊎◌, true, Bool, IsTrue, List, length, map, slice_index_or, Some}
use Rattle.std.specs.List.{All, AllByRecursion, Contains}
use Rattle.std.specs.List.Sorted.{IsStrictlySortedBy}
use Rattle.std.specs.Ordering.{nat_cmp}
use Rattle.inc_query.specs.declared.query.Query.{Query}
use Rattle.inc_graph.specs.Graphs.{queries_of, positions_of}
use Rattle.inc_graph.specs.declared.node.Node.{Node}
use Rattle.inc_engine.specs.Builds.{at}
use Rattle.inc_engine.specs.Marking.{asked}
use Rattle.inc_engine.specs.declared.done.Done.{Done}

-- a node made of an entry
pub record IsNodeOf (order : List Query) (memo : List Done) (n : Node) : Type 0 where
  pub place : ℕ
  pub done : Done
  pub within : place < length memo
  pub is : done ≡ slice_index_or memo place done
  pub query : n.query ≡ done.query
  pub print : n.print.0 ≡ done.print.0
  pub reads_are : map (at order) n.reads ≡ map (at (asked memo)) done.reads
  pub places : AllByRecursion (λ i. i < length order) n.reads

-- the value that the memo has of a query
pub record IsValueOf (memo : List Done) (q : Query) (v : List ℕ) : Type 0 where
  pub place : ℕ
  pub done : Done
  pub within : place < length memo
  pub is : done ≡ slice_index_or memo place done
  pub query : done.query ≡ q
  pub value : done.value ≡ Some v

-- the kept values of the first n positions, in order, and no other
pub record IsCacheOf (kept : ℕ → Bool) (memo : List Done) (order : List Query) (n : ℕ) (cache : List (ℕ × List ℕ)) : Type 0 where
  pub ascend : IsStrictlySortedBy nat_cmp (positions_of cache)
  pub within : All (λ e. e.0 < n) cache
  pub values : All (λ e. IsValueOf memo (at order e.0) e.1) cache
  pub kept_only : All (λ e. IsTrue (kept (at order e.0).kind)) cache
  pub complete : (i : ℕ) → i < n → IsTrue (kept (at order i).kind) → Contains (positions_of cache) i

-- the cache has exactly the nodes of kept kinds
pub record HasKept (kept : ℕ → Bool) (nodes : List Node) (cache : List (ℕ × List ℕ)) : Type 0 where
  pub kept_only : All (λ e. IsTrue (kept (at (queries_of nodes) e.0).kind)) cache
  pub complete : (i : ℕ) → i < length nodes → IsTrue (kept (at (queries_of nodes) i).kind) → Contains (positions_of cache) i

-- an entry is new, or its print isn't that of its node
abbrev pub IsRedBy : List Node → Done → Bool → Type 0
IsRedBy nodes d red =
    (All (λ n. n.query ≢ d.query) nodes × (red ≡ true)) ⊎ ((i : ℕ) × (i < length nodes) × (at (queries_of nodes) i ≡ d.query) × ((n : Node) → IsTrue red ↔ (d.print.0 ≢ (slice_index_or nodes i n).print.0)))
