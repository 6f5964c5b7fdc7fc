-- The law of reads: what a query needs next is determined by the values of the reads before.
use Rattle.std.specs.Prelude.{◌≡◌, ℕ, ◌<◌, ◌⊎◌, List, [], ◌∷◌, take, drop}
use Rattle.std.specs.List.{AllByRecursion}
use Rattle.inc_query.specs.Plans.{Plan, denote, reads_of}
use Rattle.inc_query.specs.declared.query.Query.{Query}

-- the next of the reads that are left is the same, or none are left and the values are equal
abbrev pub NextAgrees : List Query → List Query → List ℕ → List ℕ → Type 0
NextAgrees left0 left1 value0 value1 =
    ((r : Query) × (more0 more1 : List Query) × (left0 ≡ r ∷ more0) × (left1 ≡ r ∷ more1)) ⊎ ((left0 ≡ []) × (left1 ≡ []) × (value0 ≡ value1))

-- each read has a lower kind, and where the first k reads of a query of a kind above 0 have equal values under
-- two inputs, they are the first k reads under both, and the next read is the same or both end there with equal
-- values
pub record LawOfReads (plan : Query → Plan) : Type 0 where
  pub lower : (input : List ℕ) (q : Query) → AllByRecursion (λ r. r.kind < q.kind) (reads_of plan input q)
  pub first : (input0 input1 : List ℕ) (q : Query) (k : ℕ) → 0 < q.kind → AllByRecursion (λ r. denote plan input0 r ≡ denote plan input1 r) (take k (reads_of plan input0 q)) → take k (reads_of plan input0 q) ≡ take k (reads_of plan input1 q)
  pub next : (input0 input1 : List ℕ) (q : Query) (k : ℕ) → 0 < q.kind → AllByRecursion (λ r. denote plan input0 r ≡ denote plan input1 r) (take k (reads_of plan input0 q)) → NextAgrees (drop k (reads_of plan input0 q)) (drop k (reads_of plan input1 q)) (denote plan input0 q) (denote plan input1 q)
