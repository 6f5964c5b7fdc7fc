-- How the value of a query follows from its plan.
use Rattle.std.proofs.Common.{◌≡◌, ℕ, ◌<◌, List, [], ◌∷◌, map, refl, ap, ◌∙◌}
use Rattle.std.specs.Prelude.{Option, Some}
use Rattle.inc_query.specs.Plans.{Plan, denote, given}
use Rattle.inc_query.specs.PlanLaws.{denote-above}
use Rattle.inc_query.specs.declared.query.Query.{Query}
use Rattle.rs_tree.specs.declared.place.Place.{Place}
use Rattle.rs_plans.specs.Plans.{plan_of}
use Rattle.rs_plans.specs.Steps.{ask, ask_each, given_or_empty, whole}
use Rattle.rs_plans.proofs.Fits.{plans_fit}

-- the value of a query of a text, by a setting
abbrev pub valued : List ℕ → List ℕ → Query → List ℕ
valued setting text q = denote (plan_of setting) text q

pub by_plan : (setting text : List ℕ) (q : Query) → 0 < q.kind → valued setting text q ≡ given (valued setting text) (plan_of setting q)
by_plan setting text q l = denote-above (plan_of setting) text (plans_fit setting) q l

pub text_value : (setting text : List ℕ) → valued setting text (whole 0) ≡ text
unfolding denote
text_value setting text = refl

-- a value that is read
pub given_ask : {A : Type 0} (v : Query → List ℕ) (q : Query) (read : List ℕ → Option A) (more : A → Plan) (a : A) → read (v q) ≡ Some a → given v (ask q read more) ≡ given v (more a)
given_ask v q read more a e = ap (λ o. given v (given_or_empty o more)) e

-- of each of these places
abbrev pub AreRead : {A : Type 0} → (Query → List ℕ) → (Place → Query) → (Place → List ℕ → Option A) → List (Place × A) → Type 0
AreRead v of read [] = Unit {0}
AreRead v of read (a ∷ xs) = (read a.0 (v (of a.0)) ≡ Some a.1) × AreRead v of read xs

pub given_each : {A : Type 0} (v : Query → List ℕ) (of : Place → Query) (read : Place → List ℕ → Option A) (xs : List (Place × A)) (more : List (Place × A) → Plan) → AreRead v of read xs → given v (ask_each of read (map (λ a. a.0) xs) more) ≡ given v (more xs)
given_each v of read [] more h = refl
given_each v of read (a ∷ xs) more h =
    given_ask v (of a.0) (read a.0) (λ x. ask_each of read (map (λ a. a.0) xs) (λ xs. more ((a.0, x) ∷ xs))) a.1 h.0 ∙ given_each v of read xs (λ xs. more (a ∷ xs)) h.1
