-- What an engine is given, and what the graph and the cache of a build are.
use Rattle.std.specs.Prelude.{◌≡◌, ℕ, ◌<◌, ◌==◌, ◌&&◌, ◌||◌, not, Bool, IsTrue, slice_index_or, List, [], ◌++◌, length, map}
use Rattle.std.specs.List.{All, AllByRecursion, Contains, list_any}
use Rattle.std.specs.Str.{bytes_eq}
use Rattle.sha2.specs.Sha256.{sha256}
use Rattle.inc_query.specs.Plans.{Plan, denote, reads_of}
use Rattle.inc_query.specs.declared.query.Query.{Query}
use Rattle.inc_graph.specs.Graphs.{queries_of, positions_of}
use Rattle.inc_graph.specs.declared.node.Node.{Node}

-- the query at a position
abbrev pub at : List Query → ℕ → Query
at qs i = slice_index_or qs i (record { kind = 0; «module» = []; name = [] })

-- the graph and the cache are those of queries asked of the input s: each node has the print of its query's value
-- and its query's reads, and the cache has their values, and all those of kept kinds
pub record IsBuildOf (plan : Query → Plan) (kept : ℕ → Bool) (s : List ℕ) (nodes : List Node) (cache : List (ℕ × List ℕ)) : Type 0 where
  pub prints : All (λ n. n.print.0 ≡ sha256 (denote plan s n.query)) nodes
  pub reads : All (λ n. map (at (queries_of nodes)) n.reads ≡ reads_of plan s n.query) nodes
  pub values : All (λ e. e.1 ≡ denote plan s (at (queries_of nodes) e.0)) cache
  pub complete : (i : ℕ) → i < length nodes → IsTrue (kept (at (queries_of nodes) i).kind) → Contains (positions_of cache) i

-- what one build is about: what the provider means, its input, and the graph and cache of an earlier build
pub record Setup : Type 0 where
  pub plan : Query → Plan
  pub kept : ℕ → Bool
  pub ticking : ℕ
  pub height : ℕ
  pub input : List ℕ
  pub nodes : List Node
  pub cache : List (ℕ × List ℕ)

abbrev pub setup : (Query → Plan) → (ℕ → Bool) → ℕ → ℕ → List ℕ → List Node → List (ℕ × List ℕ) → Setup
setup plan kept ticking height input nodes cache =
    record { plan = plan; kept = kept; ticking = ticking; height = height; input = input; nodes = nodes; cache = cache }

abbrev pub value_in : Setup → List ℕ → Query → List ℕ
value_in b s q = denote b.plan s q

abbrev pub reads_in : Setup → List ℕ → Query → List Query
reads_in b s q = reads_of b.plan s q

-- the earlier build was of the input s, and no value of its queries collides with that of this input: equal prints
-- mean equal values
pub record Before (b : Setup) (s : List ℕ) : Type 0 where
  pub of : IsBuildOf b.plan b.kept s b.nodes b.cache
  pub clear : All (λ n. sha256 (value_in b b.input n.query) ≡ sha256 (value_in b s n.query) → value_in b b.input n.query ≡ value_in b s n.query) b.nodes

-- a query that is asked where another is
pub data Reached (reads : Query → List Query) : Query → Query → Type 0 where
  itself : (q : Query) → Reached reads q q
  by_read : (q r : Query) → Contains (reads q) r → Reached reads q r
  along : (q r s : Query) → Reached reads q r → Reached reads r s → Reached reads q s

-- the reads of a query whose values differ between two inputs
abbrev pub differs : (Query → List ℕ) → (Query → List ℕ) → List Query → Bool
differs value0 value1 rs = list_any (λ r. not (bytes_eq (value0 r) (value1 r))) rs

abbrev pub same_query : Query → Query → Bool
same_query q r = (q.kind == r.kind) && (bytes_eq q.«module» r.«module» && bytes_eq q.name r.name)

-- the earlier build was asked it
abbrev pub was_asked : Setup → Query → Bool
was_asked b q = list_any (same_query q) (queries_of b.nodes)

-- a query of the ticking kind that s wasn't asked, or one of whose reads differs
unfoldable pub stale : Setup → List ℕ → Query → Bool
stale b s q = (q.kind == b.ticking) && (not (was_asked b q) || differs (value_in b s) (value_in b b.input) (reads_in b s q))

-- a query that s wasn't asked, or whose value differs
unfoldable pub is_red : Setup → List ℕ → Query → Bool
is_red b s q = not (was_asked b q) || not (bytes_eq (value_in b s q) (value_in b b.input q))

-- what a call for the query q adds to the queries that were asked: where they weren't yet, it and queries reached
-- from it
pub record Asks (b : Setup) (q : Query) (old new : List Query) : Type 0 where
  pub more : List Query
  pub are : new ≡ old ++ more
  pub it : Contains new q
  pub reached : (s : List ℕ) → Before b s → AllByRecursion (Reached (reads_in b b.input) q) more
  pub closed : (s : List ℕ) → Before b s → All (λ r. All (Contains new) (reads_in b b.input r)) new

-- what an engine was given, what it was asked, and whether it ran out of memory
pub record Build : Type 0 where
  pub setting : List ℕ
  pub input : List ℕ
  pub nodes : List Node
  pub cache : List (ℕ × List ℕ)
  pub asked : List Query
  pub failed : Bool
