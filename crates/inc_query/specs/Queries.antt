-- What is asked, and in which order.
use Rattle.std.specs.Prelude.{◌≡◌, ◌≢◌, ℕ, ◌≤◌, ◌⊎◌, List, [], codes}
use Rattle.std.specs.Ordering.{nat_cmp, ordering_then}
use Rattle.std.specs.Cmp.Lexicographic.{slice_cmp}
use Rattle.std.specs.declared.cmp.Ordering.{Ordering}
use Rattle.inc_base.specs.Texts.{IsName}
use Rattle.inc_query.specs.declared.query.Query.{Query}

-- empty, or a name
abbrev pub IsNameOrNone : List ℕ → Type 0
IsNameOrNone text = (text ≡ []) ⊎ IsName text

-- the root, which is empty, or a module's name, which `crate` isn't
abbrev pub IsModule : List ℕ → Type 0
IsModule text = IsNameOrNone text × (text ≢ codes "crate")

-- a query of a graph: one of the eleven kinds, about a module and a name, and an object about a module alone
pub record IsQuery (q : Query) : Type 0 where
  pub kind : q.kind ≤ 10
  pub «module» : IsModule q.module
  pub name : IsNameOrNone q.name
  pub unit : q.kind ≡ 10 → q.name ≡ []

-- by kind, then by module, then by name
abbrev pub query_cmp : Query → Query → Ordering
query_cmp a b = ordering_then (nat_cmp a.kind b.kind) (ordering_then (slice_cmp nat_cmp a.module b.module) (slice_cmp nat_cmp a.name b.name))
