-- The values of the types: what clauses see as numbers and lists is in its range.
use Rattle.std.specs.Prelude.{◌≡◌, ℕ, ◌^◌, ◌<◌, FitsSigned, List}
use Rattle.std.specs.Int.{w64}
use Rattle.inc_wire.specs.Fits.{FitsList, FitsText}
use Rattle.rs_forms.specs.Fits.{FitsPlace}
use Rattle.rs_answers.specs.Forms.{why_code}
use Rattle.rs_tree.specs.declared.answers.Const.{Const}
use Rattle.rs_tree.specs.declared.answers.Const.TheVariants as k
use Rattle.rs_tree.specs.declared.answers.Diag.{Diag}
use Rattle.rs_tree.specs.declared.place.Place.{Place}

abbrev pub FitsConst : Const → Type 0
FitsConst (k.Int v) = FitsSigned w64 v
FitsConst (k.Bool b) = Unit {0}
FitsConst k.Cycle = Unit {0}
FitsConst k.Overflow = Unit {0}
FitsConst k.DivZero = Unit {0}
FitsConst k.Bad = Unit {0}

-- a constant's value that fits, or that it has none for this reason
pub record HasWhy (why : ℕ) (c : Const) : Type 0 where
  pub fits : FitsConst c
  pub is : why_code c ≡ why

pub record FitsDiag (d : Diag) : Type 0 where
  pub line : d.at.line < 2 ^ 32
  pub column : d.at.column < 2 ^ 32
  pub code : d.code < 2 ^ 16
  pub text : FitsText d.text

abbrev pub FitsDiags : List Diag → Type 0
FitsDiags = FitsList FitsDiag

abbrev pub FitsPlaces : List Place → Type 0
FitsPlaces = FitsList FitsPlace
