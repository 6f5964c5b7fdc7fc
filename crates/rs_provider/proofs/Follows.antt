-- How a plan goes on.
use Rattle.std.proofs.Common.{◌≡◌, [], ◌∷◌, Option, Some, None, refl, ap}
use Rattle.inc_query.specs.Plans.{Known, Plan, Give, Need, follow}
use Rattle.rs_plans.specs.Steps.{given_or_empty}
use Rattle.rs_provider.specs.Begun.{after_all, values_of}
use Rattle.rs_provider.specs.Rests.{answer_of}

-- what it answers after reads is what is left of it then
pub follows : (plan : Plan) (known : Known) → answer_of (after_all plan (values_of known)) ≡ follow plan known
follows (Give w) [] = refl
follows (Need r k) [] = refl
follows (Give w) (x ∷ xs) = follows (Give w) xs
follows (Need r k) (x ∷ xs) = follows (k x.1) xs

-- a value in its form
pub with_some : {A : Type 0} (o : Option A) (a : A) (more : A → Plan) → o ≡ Some a → given_or_empty o more ≡ more a
with_some o a more e = ap (λ x. given_or_empty x more) e

-- and one that isn't
pub with_none : {A : Type 0} (o : Option A) (more : A → Plan) → o ≡ None → given_or_empty o more ≡ Give []
with_none o more e = ap (λ x. given_or_empty x more) e
