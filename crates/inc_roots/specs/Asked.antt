-- What calls for some roots leave, one after the other.
use Rattle.std.specs.Prelude.{◌≡◌, ℕ, List, ◌++◌}
use Rattle.std.specs.List.{All, AllByRecursion, Contains}
use Rattle.inc_query.specs.declared.query.Query.{Query}
use Rattle.inc_engine.specs.Builds.{Before, Reached, Setup, reads_in}

-- it is reached from one of these
abbrev pub IsReachedFrom : (Query → List Query) → List Query → Query → Type 0
IsReachedFrom reads roots q = (root : Query) × Contains roots root × Reached reads root q

-- what they add to the queries that were asked: the roots, where they weren't yet, and queries reached from them
pub record AsksAll (b : Setup) (roots old new : List Query) : Type 0 where
  pub more : List Query
  pub are : new ≡ old ++ more
  pub there : All (Contains new) roots
  pub reached : (s : List ℕ) → Before b s → AllByRecursion (IsReachedFrom (reads_in b b.input) roots) more

-- the queries were asked where these roots were, and nothing else was: each root is there, and each is reached from one of them
pub record AreAsked (reads : Query → List Query) (roots queries : List Query) : Type 0 where
  pub there : All (Contains queries) roots
  pub reached : All (IsReachedFrom reads roots) queries
