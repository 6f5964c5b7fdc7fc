-- What a query on its way is, and which of a query's values it was fed.
use Rattle.std.specs.Prelude.{◌≡◌, ℕ, List, take, length}
use Rattle.inc_query.specs.Plans.{Known}
use Rattle.inc_query.specs.declared.query.Query.{Query}
use Rattle.rs_provider.specs.Begun.{values_of}
use Rattle.rs_provider.specs.declared.begun.Begun.{Begun}

-- it is of this query and level, and was fed these values
pub record WasFed (level : ℕ) (q : Query) (values : List (List ℕ)) (b : Begun) : Type 0 where
  pub level_is : b.level ≡ level
  pub query_is : b.q ≡ q
  pub fed_is : b.fed ≡ values

-- it is of this query and level, and was fed the values of the first of these reads
abbrev pub Fits : ℕ → Query → Known → Begun → Type 0
Fits level q known b = WasFed level q (values_of (take (length b.fed) known)) b
