-- Names in scope.
use Rattle.std.specs.Prelude.{ℕ, if◌then◌else◌, List, [], ◌∷◌, Option, Some, None}
use Rattle.std.specs.Str.{bytes_eq}

-- locals with their numbers, the innermost first
abbrev pub Env : Type 0
Env = List (List ℕ × ℕ)

-- the number of a name's innermost local
abbrev pub find : List ℕ → Env → Option ℕ
find name [] = None
find name (l ∷ older) = if bytes_eq name l.0 then Some l.1 else find name older
