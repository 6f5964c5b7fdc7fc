-- What is kept of a value: the value itself where it passes, and else none.
use Rattle.std.specs.Prelude.{◌≡◌, Option, Some, None}

abbrev pub IsKept : {X : Type 0} → (X → Type 0) → X → Option X → Type 0
IsKept Q x None = ¬ Q x
IsKept Q x (Some y) = (y ≡ x) × Q x
