-- How plans read: a value in its form, or the plan gives the empty value.
use Rattle.std.specs.Prelude.{ℕ, List, [], ◌∷◌, ◌++◌, Option, Some, None}
use Rattle.std.proofs.Common.{zero, suc}
use Rattle.inc_query.specs.Plans.{Plan, Give, Need}
use Rattle.inc_query.specs.declared.query.Query.{Query}
use Rattle.rs_tree.specs.declared.place.Place.{Place}
use Rattle.rs_plans.specs.Readings.{places_in}

-- of a place
abbrev pub query : ℕ → Place → Query
query kind p = record { kind = kind; «module» = p.«module»; name = p.name }

-- of the whole text
abbrev pub whole : ℕ → Query
whole kind = record { kind = kind; «module» = []; name = [] }

abbrev pub given_or_empty : {A : Type 0} → Option A → (A → Plan) → Plan
given_or_empty None more = Give []
given_or_empty (Some a) more = more a

-- a query's value is read
abbrev pub ask : {A : Type 0} → Query → (List ℕ → Option A) → (A → Plan) → Plan
ask q read more = Need q (λ v. given_or_empty (read v) more)

-- one after the other, of each of these places
abbrev pub ask_each : {A : Type 0} → (Place → Query) → (Place → List ℕ → Option A) → List Place → (List (Place × A) → Plan) → Plan
ask_each of read [] more = more []
ask_each of read (p ∷ ps) more = ask (of p) (read p) (λ a. ask_each of read ps (λ xs. more ((p, a) ∷ xs)))

-- the calls of the one that is wanted are asked, and then what is next
abbrev pub ask_wanted : (List (Place × List Place) → Plan) → (List (Place × List Place) → Plan) → List (Place × List Place) → Option Place → Plan
ask_wanted next more calls None = more calls
ask_wanted next more calls (Some p) = ask (query 6 p) places_in (λ ps. next (calls ++ (p, ps) ∷ []))

-- the calls of one function after the other, while one is wanted; of n of them at most
abbrev pub ask_calls : ℕ → (List (Place × List Place) → Option Place) → List (Place × List Place) → (List (Place × List Place) → Plan) → Plan
ask_calls zero wanted calls more = more calls
ask_calls (suc n) wanted calls more = ask_wanted (λ known. ask_calls n wanted known more) more calls (wanted calls)
