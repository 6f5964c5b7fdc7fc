-- The names of a scope.
use Rattle.std.specs.Prelude.{ℕ, List, [], ◌∷◌}
use Rattle.rs_lookup.specs.Env.{Env}

abbrev pub names_of : Env → List (List ℕ)
names_of [] = []
names_of (l ∷ older) = l.0 ∷ names_of older
