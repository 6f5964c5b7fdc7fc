-- A tree whose items are in the ranges of their types.
use Rattle.std.specs.Prelude.{◌≡◌, true, List, Some}
use Rattle.std.specs.List.{AllByRecursion}
use Rattle.inc_wire.specs.Fits.{Always, FitsList}
use Rattle.rs_tree.specs.declared.answers.Const.{Const as Value}
use Rattle.rs_tree.specs.declared.answers.Const.TheVariants as k
use Rattle.rs_tree.specs.declared.place.Place.{Place}
use Rattle.rs_tree.specs.declared.tree.Crate.{Crate}
use Rattle.rs_tree.specs.declared.tree.Placed.{Placed}
use Rattle.rs_tree.specs.Plain.{definition}
use Rattle.rs_forms.specs.Fits.{FitsToken}
use Rattle.rs_const.specs.Constants.{Entry}
use Rattle.rs_queries.specs.Known.{params_of, value_at}
use Rattle.rs_plans.specs.Readings.{are_lexed}

-- an item's tokens can be a text's, and they and its parameters are as many as a list's form has
pub record FitsPlaced (placed : Placed) : Type 0 where
  pub tokens : FitsList FitsToken placed.item.tokens
  pub lexed : are_lexed placed.item.tokens ≡ true
  pub params : FitsList Always (params_of (definition placed.item.body))

pub record HasItems (krate : Crate) : Type 0 where
  pub each : AllByRecursion FitsPlaced krate.items

-- a constant has a value
abbrev pub IsUsable : Value → Type 0
IsUsable (k.Int v) = Unit {0}
IsUsable (k.Bool b) = Unit {0}
IsUsable k.Cycle = ⊥
IsUsable k.Overflow = ⊥
IsUsable k.DivZero = ⊥
IsUsable k.Bad = ⊥

-- each of these places that is a constant's has a value
abbrev pub HaveValues : List Entry → List Value → List Place → Type 0
HaveValues constants values ps = AllByRecursion (λ q. (c : Value) → value_at constants values q ≡ Some c → IsUsable c) ps
