-- A provider of three kinds: the input, one byte of it, and a copy of that byte.
use Rattle.std.specs.Prelude.{◌≡◌, ◌≢◌, ℕ, ◌<◌, ◌≤◌, ◌==◌, Bool, List, [], take, drop, length, refl}
use Rattle.std.proofs.Common.{zero, suc, arith, inl}
use Rattle.inc_query.specs.Queries.{IsQuery}
use Rattle.inc_query.specs.Plans.{Plan, Give, Need, ReadsFit}
use Rattle.inc_query.specs.Ticks.{rise}
use Rattle.inc_query.specs.TickLaws.{rise-none, rise-least}
use Rattle.inc_query.specs.declared.query.Query.{Query}

-- the query of the input
abbrev pub text : Query
text = record { kind = 0; «module» = []; name = [] }

-- kind 1 is the byte after as many as the name has, kind 2 a copy of it
abbrev pub plan_of : ℕ → List ℕ → List ℕ → Plan
plan_of zero m n = Give []
plan_of (suc zero) m n = Need text (λ t. Give (take 1 (drop (length n) t)))
plan_of (suc (suc zero)) m n = Need (record { kind = 1; «module» = m; name = n }) (λ a. Give a)
plan_of (suc (suc (suc k))) m n = Give []

abbrev pub plan : List ℕ → Query → Plan
plan setting q = plan_of q.kind q.«module» q.name

abbrev pub is_kept : ℕ → Bool
is_kept k = k == 2

text_is : IsQuery text
text_is = record { kind = omega arith; «module» = (inl refl, λ e. absurd (cc)); name = inl refl; unit = λ e. refl }

pub fits : (setting : List ℕ) (q : Query) → ReadsFit q [] (plan setting q)
fits setting q = by q.kind refl
  where
    by : (k : ℕ) → q.kind ≡ k → ReadsFit q [] (plan_of k q.«module» q.name)
    by zero e = tt
    by (suc zero) e = (record { lower = omega (arith, e); new = tt; form = λ h. text_is }, λ value. tt)
    by (suc (suc zero)) e =
        (record { lower = omega (arith, e); new = tt; form = λ h. record { kind = omega arith; «module» = h.«module»; name = h.name; unit = λ f. absurd (omega arith) } }, λ value. tt)
    by (suc (suc (suc k))) e = tt

-- a count that doesn't tick, and one that ticks once
pub rise_none : (count : ℕ) → rise count 0 ≡ count
rise_none count = rise-none count

pub rise_least : (count : ℕ) → count ≤ rise count 1
rise_least count = rise-least count 1
