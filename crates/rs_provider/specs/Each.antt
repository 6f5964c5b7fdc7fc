-- How places are asked about, one after the other.
use Rattle.std.specs.Prelude.{ℕ, List, [], ◌∷◌, ◌++◌, Option, Some, None}
use Rattle.rs_tree.specs.declared.place.Place.{Place}
use Rattle.inc_query.specs.Plans.{Plan}
use Rattle.inc_query.specs.declared.query.Query.{Query}
use Rattle.rs_plans.specs.Steps.{ask_each}
use Rattle.rs_provider.specs.declared.each.Each.{Each}
use Rattle.rs_provider.specs.declared.each.Turn.{Turn}
use Rattle.rs_provider.specs.declared.each.Turn.TheVariants.{Next, All}

-- the first, and those after it
abbrev pub taken_of : List Place → Option (Place × List Place)
taken_of [] = None
taken_of (p ∷ ps) = Some (p, ps)

-- after these were read, the first of those that are left is next
abbrev pub turn_of : {A : Type 0} → List (Place × A) → List Place → Turn A
turn_of done [] = All done
turn_of done (p ∷ ps) = Next (record { done = done; next = p; left = ps })

-- what is left of a plan that reads of each place, and goes on with all of it
abbrev pub each_left : {A : Type 0} → (Place → Query) → (Place → List ℕ → Option A) → Each A → (List (Place × A) → Plan) → Plan
each_left of read e more = ask_each of read (e.next ∷ e.left) (λ xs. more (e.done ++ xs))

abbrev pub turn_left : {A : Type 0} → (Place → Query) → (Place → List ℕ → Option A) → Turn A → (List (Place × A) → Plan) → Plan
turn_left of read (Next e) more = each_left of read e more
turn_left of read (All done) more = more done
