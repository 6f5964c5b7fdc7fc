-- What a provider means: the plans of its queries, and the values and reads that follow.
use Rattle.std.specs.Prelude.{◌≡◌, ◌≢◌, ℕ, ◌<◌, ◌==◌, List, [], ◌∷◌, map, if◌then◌else◌}
use Rattle.std.specs.List.{AllByRecursion}
use Rattle.std.proofs.Common.{zero, suc}
use Rattle.inc_query.specs.Queries.{IsQuery}
use Rattle.inc_query.specs.declared.query.Query.{Query}
use Rattle.inc_query.specs.declared.answer.Answer.{Answer}
use Rattle.inc_query.specs.declared.answer.Answer.TheVariants.{Read, Value}

-- the reads that were made of a query, each with its value, in order
abbrev pub Known : Type 0
Known = List (Query × List ℕ)

-- what is done for a query: its value is given, or a read is needed, whose value says how it goes on
pub data Plan : Type 0 where
  Give : List ℕ → Plan
  Need : Query → (List ℕ → Plan) → Plan

-- what a plan answers after these reads
abbrev pub follow : Plan → Known → Answer
follow (Give w) known = Value w
follow (Need r k) [] = Read r
follow (Need r k) (x ∷ xs) = follow (k x.1) xs

-- each of the reads is the one that the plan needs after those before it
abbrev pub Asked : Known → Plan → Type 0
Asked [] p = Unit {0}
Asked (x ∷ xs) (Give w) = ⊥
Asked (x ∷ xs) (Need r k) = (x.0 ≡ r) × Asked xs (k x.1)

-- the queries that were read
abbrev pub made_of : Known → List Query
made_of known = map (λ x. x.0) known

-- a read of the query q after these reads: of a lower kind, new, and of the form of a query where q has it
pub record IsRead (q : Query) (made : List Query) (r : Query) : Type 0 where
  pub lower : r.kind < q.kind
  pub new : AllByRecursion (λ m. m ≢ r) made
  pub form : IsQuery q → IsQuery r

-- each read of a plan of q is one, whatever the values are
abbrev pub ReadsFit : Query → List Query → Plan → Type 0
ReadsFit q made (Give w) = Unit {0}
ReadsFit q made (Need r k) = IsRead q made r × ((value : List ℕ) → ReadsFit q (r ∷ made) (k value))

-- the value that a plan gives where each read is answered by v
abbrev pub given : (Query → List ℕ) → Plan → List ℕ
given v (Give w) = w
given v (Need r k) = given v (k (v r))

-- the reads that it makes then
abbrev pub reads_by : (Query → List ℕ) → Plan → List Query
reads_by v (Give w) = []
reads_by v (Need r k) = r ∷ reads_by v (k (v r))

-- what is done for a query under an input: kind 0 gives the input, and another kind goes by its plan
unfoldable pub doing : (Query → Plan) → List ℕ → Query → Plan
doing plan input q = if q.kind == 0 then Give input else plan q

-- the values of queries of kinds up to n
abbrev pub value_to : (Query → Plan) → List ℕ → ℕ → Query → List ℕ
value_to plan input zero q = input
value_to plan input (suc n) q = given (value_to plan input n) (doing plan input q)

-- the value of a query: each read is answered by its own value
unfoldable pub denote : (Query → Plan) → List ℕ → Query → List ℕ
denote plan input q = value_to plan input q.kind q

-- the reads of a query
unfoldable pub reads_of : (Query → Plan) → List ℕ → Query → List Query
reads_of plan input q = reads_by (denote plan input) (doing plan input q)
