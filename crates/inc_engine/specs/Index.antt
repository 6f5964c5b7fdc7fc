-- Where each query of a memo is.
use Rattle.std.specs.Prelude.{◌≡◌, ℕ, ◌<◌, List, length, Some, slice_index_or}
use Rattle.std.specs.BTreeMap.{BTreeMap, get}
use Rattle.inc_query.specs.Queries.{query_cmp}
use Rattle.inc_query.specs.declared.query.Query.{Query}
use Rattle.inc_engine.specs.Marking.{IsAt}
use Rattle.inc_engine.specs.declared.done.Done.{Done}

-- the index has each entry's position, and nothing else
pub record Indexed (index : BTreeMap Query ℕ) (memo : List Done) : Type 0 where
  pub found : (q : Query) (i : ℕ) → get query_cmp index q ≡ Some i → IsAt memo i q
  pub all : (i : ℕ) (d : Done) → i < length memo → get query_cmp index (slice_index_or memo i d).query ≡ Some i
