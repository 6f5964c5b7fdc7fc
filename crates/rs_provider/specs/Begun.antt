-- Where a query stands after values.
use Rattle.std.specs.Prelude.{◌≡◌, ℕ, List, [], ◌∷◌, map}
use Rattle.inc_query.specs.Plans.{Known, Plan}
use Rattle.inc_query.specs.declared.query.Query.{Query}
use Rattle.rs_plans.specs.Plans.{plan_of}
use Rattle.rs_provider.specs.Rests.{after, rest}
use Rattle.rs_provider.specs.declared.state.State.{State}

-- what is left of a plan after these values
abbrev pub after_all : Plan → List (List ℕ) → Plan
after_all plan [] = plan
after_all plan (v ∷ vs) = after_all (after plan v) vs

-- the values of reads
abbrev pub values_of : Known → List (List ℕ)
values_of known = map (λ x. x.1) known

-- these values led a query there, by a compiler of any version
pub record IsBegun (level : ℕ) (q : Query) (fed : List (List ℕ)) (s : State) : Type 0 where
  pub at : (version : ℕ) → rest s ≡ after_all (plan_of (version ∷ level ∷ []) q) fed
