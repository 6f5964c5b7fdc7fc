-- Where the plan of each kind begins.
use Rattle.std.proofs.Common.{◌≡◌, ℕ, ◌==◌, Bool, true, false, not, List, [], ◌∷◌, refl, sym, ap, ◌∙◌, if◌then◌else◌}
use Rattle.std.proofs.lemmas.Bool.Decides.{Decides-eqb}
use Rattle.inc_query.specs.Plans.{Plan, Give}
use Rattle.inc_query.specs.declared.query.Query.{Query}
use Rattle.rs_tree.specs.Plain.{definition}
use Rattle.rs_tree.specs.declared.place.Place.{Place}
use Rattle.rs_tree.specs.declared.tree.Item.{Item}
use Rattle.rs_plans.specs.Plans.{calls_plan, check_plan, const_plan, dead_plan, index_plan, ir_plan, is_constant, item_plan, level_of, members_plan, object_plan, plan_of, sig_plan, subject}
use Rattle.rs_plans.specs.Readings.{item_in}
use Rattle.rs_plans.specs.Steps.{ask, query}
use Rattle.rs_provider.specs.Rests.{resolving, rest}
use Rattle.rs_provider.specs.declared.state.Aim.TheVariants as aim
use Rattle.rs_provider.specs.declared.state.Search.TheVariants as search
use Rattle.rs_provider.specs.declared.state.State.{State}
use Rattle.rs_provider.specs.declared.state.State.TheVariants as state

-- a function has no value, and a constant no form, as the plans have it
form_item : (level : ℕ) (at : Place) (item : Item) (b : Bool) → (if not b then resolving (aim.Form level) at item else Give []) ≡ (if b then Give [] else resolving (aim.Form level) at item)
form_item level at item true = refl
form_item level at item false = refl

-- ---- The plan of a query, by its kind.

abbrev plan_at : ℕ → ℕ → Query → ℕ → Plan
plan_at version level q k =
    if k == 1 then index_plan
    else if k == 2 then item_plan q
    else if k == 3 then sig_plan q
    else if k == 4 then const_plan q
    else if k == 5 then check_plan q
    else if k == 6 then calls_plan q
    else if k == 7 then dead_plan
    else if k == 8 then members_plan q
    else if k == 9 then ir_plan (level_of (version ∷ level ∷ [])) q
    else if k == 10 then object_plan q
    else Give []

plan_is : (version level : ℕ) (q : Query) (k : ℕ) → q.kind ≡ k → plan_at version level q k ≡ plan_of (version ∷ level ∷ []) q
unfolding plan_of
plan_is version level q k e = ap (plan_at version level q) (sym e)

-- what begins where it should
pub record Begins (level : ℕ) (q : Query) (s : State) : Type 0 where
  pub at : (version : ℕ) → rest s ≡ plan_of (version ∷ level ∷ []) q

pub index_begins : (level : ℕ) (q : Query) → q.kind ≡ 1 → Begins level q state.Index
index_begins level q e = record { at = λ version. plan_is version level q 1 e }

pub item_begins : (level : ℕ) (q : Query) (at : Place) → at ≡ subject q → q.kind ≡ 2 → Begins level q (state.Item at)
item_begins level q at is e = record { at = λ version. ap (λ p. rest (state.Item p)) is ∙ plan_is version level q 2 e }

pub sig_begins : (level : ℕ) (q : Query) (at : Place) → at ≡ subject q → q.kind ≡ 3 → Begins level q (state.Sig at)
sig_begins level q at is e = record { at = λ version. ap (λ p. rest (state.Sig p)) is ∙ plan_is version level q 3 e }

pub const_begins : (level : ℕ) (q : Query) (at : Place) → at ≡ subject q → q.kind ≡ 4 → Begins level q (state.Subject at aim.Const)
const_begins level q at is e = record { at = λ version. ap (λ p. rest (state.Subject p aim.Const)) is ∙ plan_is version level q 4 e }

pub check_begins : (level : ℕ) (q : Query) (at : Place) → at ≡ subject q → q.kind ≡ 5 → Begins level q (state.Subject at aim.Check)
check_begins level q at is e = record { at = λ version. ap (λ p. rest (state.Subject p aim.Check)) is ∙ plan_is version level q 5 e }

pub calls_begin : (level : ℕ) (q : Query) (at : Place) → at ≡ subject q → q.kind ≡ 6 → Begins level q (state.Subject at aim.Calls)
calls_begin level q at is e = record { at = λ version. ap (λ p. rest (state.Subject p aim.Calls)) is ∙ plan_is version level q 6 e }

pub dead_begins : (level : ℕ) (q : Query) → q.kind ≡ 7 → Begins level q (state.Search search.Dead)
dead_begins level q e = record { at = λ version. plan_is version level q 7 e }

pub members_begin : (level : ℕ) (q : Query) (unit : List ℕ) → unit ≡ q.«module» → q.kind ≡ 8 → Begins level q (state.Search (search.Members unit))
members_begin level q unit is e = record { at = λ version. ap (λ u. rest (state.Search (search.Members u))) is ∙ plan_is version level q 8 e }

pub form_begins : (level : ℕ) (q : Query) (at : Place) → at ≡ subject q → q.kind ≡ 9 → Begins level q (state.Subject at (aim.Form level))
form_begins level q at is e = record {
  at = λ version.
      ap (λ p. rest (state.Subject p (aim.Form level))) is
      ∙ (λ i. ask (query 2 (subject q)) item_in (λ item. form_item level (subject q) item (is_constant (definition item.body)) i))
      ∙ plan_is version level q 9 e;
}

pub object_begins : (level : ℕ) (q : Query) (unit : List ℕ) → unit ≡ q.«module» → q.kind ≡ 10 → Begins level q (state.Members unit)
object_begins level q unit is e = record { at = λ version. ap (λ u. rest (state.Members u)) is ∙ plan_is version level q 10 e }

-- no other kind has a plan
other : (k n : ℕ) (x y : Plan) → (k ≡ n → ⊥) → (if k == n then x else y) ≡ y
other k n x y differ = by (k == n) refl
  where
    by : (b : Bool) → (k == n) ≡ b → (if b then x else y) ≡ y
    by true e = absurd (differ ((Decides-eqb k n).0 e))
    by false e = refl

pub none_begins : (level : ℕ) (q : Query) → (q.kind ≡ 1 → ⊥) → (q.kind ≡ 2 → ⊥) → (q.kind ≡ 3 → ⊥) → (q.kind ≡ 4 → ⊥) → (q.kind ≡ 5 → ⊥) → (q.kind ≡ 6 → ⊥) → (q.kind ≡ 7 → ⊥) → (q.kind ≡ 8 → ⊥) → (q.kind ≡ 9 → ⊥) → (q.kind ≡ 10 → ⊥) → Begins level q (state.Done [])
none_begins level q n1 n2 n3 n4 n5 n6 n7 n8 n9 n10 = record {
  at = λ version. sym (
      sym (plan_is version level q q.kind refl) ∙ other q.kind 1 _ _ n1 ∙ other q.kind 2 _ _ n2 ∙ other q.kind 3 _ _ n3 ∙ other q.kind 4 _ _ n4 ∙ other q.kind 5 _ _ n5
      ∙ other q.kind 6 _ _ n6 ∙ other q.kind 7 _ _ n7 ∙ other q.kind 8 _ _ n8 ∙ other q.kind 9 _ _ n9 ∙ other q.kind 10 _ _ n10);
}
