-- Values are in their ranges: what contracts see as numbers and lists fits the bytes of its form.
use Rattle.std.specs.Prelude.{ℕ, ◌^◌, ◌<◌, List, [], ◌∷◌, length}

-- of each element
abbrev pub Each : {X : Type 0} → (X → Type 0) → List X → Type 0
Each P [] = Unit {0}
Each P (x ∷ xs) = P x × Each P xs

-- of a type whose values are all in its range
abbrev pub Always : {X : Type 0} → X → Type 0
Always x = Unit {0}

abbrev pub FitsText : List ℕ → Type 0
FitsText text = length text < 2 ^ 32

-- a list of a type's values
pub record FitsList {X : Type 0} (P : X → Type 0) (xs : List X) : Type 0 where
  pub few : length xs < 2 ^ 32
  pub each : Each P xs
