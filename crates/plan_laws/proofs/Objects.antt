-- The objects of units.
use Rattle.std.proofs.Common.{◌≡◌, ℕ, List, [], ◌∷◌, map, refl, ap, ◌∙◌, arith}
use Rattle.std.specs.Prelude.{Some}
use Rattle.std.specs.List.{AllByRecursion}
use Rattle.inc_query.specs.Plans.{Give, given}
use Rattle.inc_query.specs.declared.query.Query.{Query}
use Rattle.rs_tree.specs.declared.ir.Ir.{Ir}
use Rattle.rs_tree.specs.declared.place.Place.{Place}
use Rattle.rs_object.specs.Forms.{object_form}
use Rattle.rs_emit.specs.Objects.{object_of}
use Rattle.rs_plans.specs.Plans.{object_plan, plan_of}
use Rattle.rs_plans.specs.Readings.{ir_in, places_in}
use Rattle.rs_plans.specs.Steps.{ask_each, query}
use Rattle.plan_laws.proofs.Given.{AreRead, by_plan, given_ask, given_each, valued}

-- the query of a kind that is about a unit
abbrev pub unit_query : ℕ → List ℕ → Query
unit_query kind unit = record { kind = kind; «module» = unit; name = [] }

module _ (setting text unit : List ℕ) where
  abbrev v : Query → List ℕ
  v = valued setting text

  each_read : (members : List (Place × Ir)) → AllByRecursion (λ (m : Place × Ir). ir_in (valued setting text (query 9 m.0)) ≡ Some m.1) members → AreRead v (query 9) (λ p. ir_in) members
  each_read [] h = tt
  each_read (m ∷ members) h = (h.0, each_read members h.1)

  planned : plan_of setting (unit_query 10 unit) ≡ object_plan (unit_query 10 unit)
  unfolding plan_of
  planned = refl

  pub object_given : (members : List (Place × Ir)) → places_in (valued setting text (unit_query 8 unit)) ≡ Some (map (λ (m : Place × Ir). m.0) members)
      → AllByRecursion (λ (m : Place × Ir). ir_in (valued setting text (query 9 m.0)) ≡ Some m.1) members → valued setting text (unit_query 10 unit) ≡ object_form (object_of unit members)
  object_given members places h =
      let more = λ (ms : List (Place × Ir)). Give (object_form (object_of unit ms)) in
      by_plan setting text (unit_query 10 unit) (omega arith) ∙ ap (given v) planned
      ∙ given_ask v (unit_query 8 unit) places_in (λ ps. ask_each (query 9) (λ p. ir_in) ps more) (map (λ (m : Place × Ir). m.0) members) places
      ∙ given_each v (query 9) (λ p. ir_in) members more (each_read members h)
