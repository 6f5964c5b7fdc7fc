-- Each list of bytes is read as a value or as none, in one way: what it is read as is a function of the bytes.
use Rattle.std.specs.Prelude.{◌≡◌, ℕ, List, Option}
use Rattle.inc_wire.specs.Readings.{IsReadAs}
use Rattle.rs_tree.specs.declared.answers.Const.{Const}
use Rattle.rs_tree.specs.declared.answers.Diag.{Diag}
use Rattle.rs_tree.specs.declared.place.Place.{Place}
use Rattle.rs_answers.specs.Fits.{FitsConst, FitsDiags, FitsPlaces}
use Rattle.rs_answers.specs.Forms.{const_form, diags_form, places_form}

-- whatever the bytes, there is an answer
pub record AnswersAreAnswered : Type 0 where
  pub constant : (bytes : List ℕ) → (read : Option Const) × IsReadAs FitsConst const_form bytes read
  pub diags : (bytes : List ℕ) → (read : Option (List Diag)) × IsReadAs FitsDiags diags_form bytes read
  pub places : (bytes : List ℕ) → (read : Option (List Place)) × IsReadAs FitsPlaces places_form bytes read

-- and no other
pub record AnswersHaveOneAnswer : Type 0 where
  pub constant : (bytes : List ℕ) (a b : Option Const) → IsReadAs FitsConst const_form bytes a → IsReadAs FitsConst const_form bytes b → a ≡ b
  pub diags : (bytes : List ℕ) (a b : Option (List Diag)) → IsReadAs FitsDiags diags_form bytes a → IsReadAs FitsDiags diags_form bytes b → a ≡ b
  pub places : (bytes : List ℕ) (a b : Option (List Place)) → IsReadAs FitsPlaces places_form bytes a → IsReadAs FitsPlaces places_form bytes b → a ≡ b
