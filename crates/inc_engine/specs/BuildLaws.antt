-- When an earlier build is one that an engine can stand on.
use Rattle.std.specs.Prelude.{◌≡◌, ℕ, Bool, List, []}
use Rattle.std.proofs.Common.{sym, arith}
use Rattle.sha2.specs.Sha256.{sha256}
use Rattle.inc_query.specs.Plans.{Plan, denote}
use Rattle.inc_query.specs.declared.query.Query.{Query}
use Rattle.inc_engine.specs.Builds.{Setup, setup, IsBuildOf, Before}

-- no two values of two inputs have one print
pub record NoCollision (plan : Query → Plan) (input0 input1 : List ℕ) : Type 0 where
  pub one : (q r : Query) → sha256 (denote plan input0 q) ≡ sha256 (denote plan input1 r) → denote plan input0 q ≡ denote plan input1 r

-- the graph and the cache of another input
pub before : (b : Setup) (s : List ℕ) → IsBuildOf b.plan b.kept s b.nodes b.cache → NoCollision b.plan s b.input → Before b s
before b s of none = record { of = of; clear = λ i d l e. sym (none.one _ _ (sym e)) }

-- with nothing kept there is no premise
pub before-nothing : (plan : Query → Plan) (kept : ℕ → Bool) (ticking height : ℕ) (input s : List ℕ) → Before (setup plan kept ticking height input [] []) s
before-nothing plan kept ticking height input s = record {
  of = record {
    prints = λ i d l. absurd (omega arith);
    reads = λ i d l. absurd (omega arith);
    values = λ i d l. absurd (omega arith);
    complete = λ i l. absurd (omega arith);
  };
  clear = λ i d l. absurd (omega arith);
}
