-- Queries of one kind.
use Rattle.std.specs.Prelude.{ℕ, ◌==◌, Bool}
use Rattle.inc_query.specs.declared.query.Query.{Query}

abbrev pub is_of : ℕ → Query → Bool
is_of kind q = q.kind == kind
