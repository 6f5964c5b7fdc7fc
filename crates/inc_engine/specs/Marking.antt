-- What the entries of an engine are, and what each step of it leaves.
use Rattle.std.specs.Prelude.{◌≡◌, ◌≢◌, ℕ, ◌<◌, ◌==◌, Bool, false, IsTrue, slice_index_or, List, [], ◌∷◌, ◌++◌, length, map, Option, Some, None, IsSome, if◌then◌else◌}
use Rattle.std.specs.List.{All, AllByRecursion, count_by}
use Rattle.sha2.specs.Sha256.{sha256}
use Rattle.inc_query.specs.Queries.{IsQuery}
use Rattle.inc_query.specs.Plans.{Known, Asked, made_of, doing}
use Rattle.inc_query.specs.Ticks.{rise}
use Rattle.inc_query.specs.declared.query.Query.{Query}
use Rattle.inc_graph.specs.Graphs.{IsGraph, IsCache}
use Rattle.inc_engine.specs.Builds.{at, Setup, value_in, reads_in, Before, Reached, stale}
use Rattle.inc_engine.specs.declared.done.Done.{Done}
use Rattle.inc_engine.specs.declared.done.Ran.{Ran}

-- the queries asked so far
abbrev pub asked : List Done → List Query
asked memo = map (λ d. d.query) memo

-- no query twice
abbrev pub Distinct : List Query → Type 0
Distinct [] = Unit {0}
Distinct (q ∷ qs) = AllByRecursion (λ r. r ≢ q) qs × Distinct qs

-- positions of queries that were asked, of kinds below the top
pub record Visited (qs : List Query) (top : ℕ) (places : List ℕ) : Type 0 where
  pub each : AllByRecursion (λ i. (i < length qs) × ((at qs i).kind < top)) places

-- the form of an entry, whatever the earlier build is
pub record IsFormed (b : Setup) (qs : List Query) (d : Done) : Type 0 where
  pub query : IsQuery d.query
  pub kind : d.query.kind < b.height
  pub visited : Visited qs d.query.kind d.reads
  pub differ : Distinct (map (at qs) d.reads)
  pub kept : IsTrue (b.kept d.query.kind) → IsSome d.value

-- an entry is right
pub record IsRight (b : Setup) (qs : List Query) (d : Done) : Type 0 where
  pub print : d.print.0 ≡ sha256 (value_in b b.input d.query)
  pub reads_are : map (at qs) d.reads ≡ reads_in b b.input d.query
  pub value_is : (v : List ℕ) → d.value ≡ Some v → v ≡ value_in b b.input d.query

-- the earlier build has its form; the entries are formed and differ, and are right where it is that of an input
pub record Sound (b : Setup) (memo : List Done) : Type 0 where
  pub graph : IsGraph b.nodes
  pub cache : IsCache b.nodes b.cache
  pub distinct : Distinct (asked memo)
  pub formed : All (IsFormed b (asked memo)) memo
  pub right : (s : List ℕ) → Before b s → All (IsRight b (asked memo)) memo

-- the memo grew by queries of kinds below the top, and the count rose by the stale ones among them
pub record Grew (b : Setup) (root : Query) (old new : List Done) (top from to : ℕ) : Type 0 where
  pub more : List Query
  pub asked_are : asked new ≡ asked old ++ more
  pub lower : AllByRecursion (λ q. q.kind < top) more
  pub reached : (s : List ℕ) → Before b s → AllByRecursion (Reached (reads_in b b.input) root) more
  pub ticked : (s : List ℕ) → Before b s → IsTrue (b.kept b.ticking) → to ≡ rise from (count_by (stale b s) more)

-- the query's position in the memo
abbrev pub IsAt : List Done → ℕ → Query → Type 0
IsAt memo i q = (i < length memo) × ((d : Done) → (slice_index_or memo i d).query ≡ q)

-- the reads of a query that were made so far
pub record Underway (b : Setup) (q : Query) (qs : List Query) (known : Known) (places : List ℕ) : Type 0 where
  pub asked_so : Asked known (doing b.plan b.input q)
  pub places_are : map (at qs) places ≡ made_of known
  pub differ : Distinct (made_of known)
  pub visited : Visited qs q.kind places
  pub right : (s : List ℕ) → Before b s → AllByRecursion (λ x. x.1 ≡ value_in b b.input x.0) known

-- one run of a query, which ticks where its kind does
pub record DidRun (b : Setup) (q : Query) (old new : List Done) (from to : ℕ) (r : Ran) : Type 0 where
  pub until : ℕ
  pub grew : Grew b q old new q.kind from until
  pub ticked : to ≡ rise until (if q.kind == b.ticking then 1 else 0)
  pub visited : Visited (asked new) q.kind r.reads
  pub differ : Distinct (map (at (asked new)) r.reads)
  pub value_is : (s : List ℕ) → Before b s → r.value ≡ value_in b b.input q
  pub reads_are : (s : List ℕ) → Before b s → map (at (asked new)) r.reads ≡ reads_in b b.input q

-- the entry of a query that was run
pub record IsRunOf (q : Query) (r : Ran) (d : Done) : Type 0 where
  pub query : d.query ≡ q
  pub print : d.print.0 ≡ sha256 r.value
  pub reads_are : d.reads ≡ r.reads
  pub value_is : d.value ≡ Some r.value

-- where the earlier build is that of an input, the value is the query's
pub record IsValue (b : Setup) (q : Query) (v : List ℕ) : Type 0 where
  pub is : (s : List ℕ) → Before b s → v ≡ value_in b b.input q

-- reads that have equal values in both builds
pub record Greening (b : Setup) (rs : List Query) : Type 0 where
  pub agree : (s : List ℕ) → Before b s → AllByRecursion (λ r. value_in b s r ≡ value_in b b.input r) rs

-- what is kept of a node's value
abbrev pub IsCached : (ℕ → Bool) → List (ℕ × List ℕ) → ℕ → ℕ → Option (List ℕ) → Type 0
IsCached kept cache place kind None = kept kind ≡ false
IsCached kept cache place kind (Some v) = (k : ℕ) × (k < length cache) × ((e : ℕ × List ℕ) → slice_index_or cache k e ≡ (place, v))

-- a query found green, or not
abbrev pub Marked : Setup → List Query → Query → Option Done → Type 0
Marked b qs q (Some d) = (d.query ≡ q) × ((s : List ℕ) → Before b s → IsRight b qs d × (stale b s q ≡ false)) × IsFormed b qs d
Marked b qs q None = (s : List ℕ) → Before b s → stale b s q ≡ (q.kind == b.ticking)

-- a new entry for a query
pub record Settled (b : Setup) (q : Query) (old new : List Done) (from to : ℕ) (d : Done) : Type 0 where
  pub until : ℕ
  pub grew : Grew b q old new q.kind from until
  pub query : d.query ≡ q
  pub formed : IsFormed b (asked new) d
  pub right : (s : List ℕ) → Before b s → IsRight b (asked new) d
  pub ticked : (s : List ℕ) → Before b s → IsTrue (b.kept b.ticking) → to ≡ rise until (if stale b s q then 1 else 0)
