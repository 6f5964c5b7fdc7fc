-- A text that has a tree, whose parts are in the ranges of their types.
use Rattle.std.specs.Prelude.{◌≡◌, ℕ, true, List, ◌∷◌, ◌++◌, Ok}
use Rattle.inc_wire.specs.Fits.{FitsList}
use Rattle.rs_tree.specs.declared.tree.Crate.{Crate}
use Rattle.rs_tree.specs.declared.tree.Placed.{Placed}
use Rattle.rs_text.specs.Text.{text_of}
use Rattle.rs_forms.specs.Fits.{FitsIndex, FitsToken}
use Rattle.rs_queries.specs.Built.{tree_index}
use Rattle.rs_plans.specs.Readings.{are_lexed}

pub record HasCrate (bytes : List ℕ) (krate : Crate) : Type 0 where
  pub is : text_of bytes ≡ Ok krate
  pub index : FitsIndex (tree_index krate)

-- an item of a tree, whose tokens are in the ranges of their types and can be a text's
pub record HasItem (krate : Crate) (placed : Placed) : Type 0 where
  pub before : List Placed
  pub rest : List Placed
  pub is : krate.items ≡ before ++ placed ∷ rest
  pub tokens : FitsList FitsToken placed.item.tokens
  pub lexed : are_lexed placed.item.tokens ≡ true
