-- Places that are asked about one after the other.
use Rattle.std.proofs.Common.{◌≡◌, ℕ, List, [], ◌∷◌, ◌++◌, Option, refl, sym, ap, ◌∙◌, append_assoc, append-nil}
use Rattle.inc_query.specs.Plans.{Plan}
use Rattle.inc_query.specs.declared.query.Query.{Query}
use Rattle.rs_tree.specs.declared.place.Place.{Place}
use Rattle.rs_plans.specs.Steps.{ask_each}
use Rattle.rs_provider.specs.Each.{turn_left, turn_of}

-- what is left after these were read
pub turn_is : {A : Type 0} (of : Place → Query) (read : Place → List ℕ → Option A) (more : List (Place × A) → Plan) (done : List (Place × A)) (ps : List Place)
    → turn_left of read (turn_of done ps) more ≡ ask_each of read ps (λ xs. more (done ++ xs))
turn_is of read more done [] = ap more (sym (append-nil done))
turn_is of read more done (p ∷ ps) = refl

-- before any was
pub turn_begins : {A : Type 0} (of : Place → Query) (read : Place → List ℕ → Option A) (more : List (Place × A) → Plan) (ps : List Place)
    → turn_left of read (turn_of [] ps) more ≡ ask_each of read ps more
turn_begins of read more [] = refl
turn_begins of read more (p ∷ ps) = refl

-- and after one more
pub turn_goes_on : {A : Type 0} (of : Place → Query) (read : Place → List ℕ → Option A) (more : List (Place × A) → Plan) (done : List (Place × A)) (p : Place) (a : A) (ps : List Place)
    → turn_left of read (turn_of (done ++ (p, a) ∷ []) ps) more ≡ ask_each of read ps (λ xs. more (done ++ (p, a) ∷ xs))
turn_goes_on of read more done p a ps =
    turn_is of read more (done ++ (p, a) ∷ []) ps ∙ (λ i. ask_each of read ps (λ xs. more (append_assoc done ((p, a) ∷ []) xs i)))
