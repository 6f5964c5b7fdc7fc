-- The variables and parameters in scope.
use Rattle.std.specs.Prelude.{ℕ, ◌+◌, Bool, if◌then◌else◌, List, [], ◌∷◌, Option, Some, None}
use Rattle.std.specs.Str.{bytes_eq}
use Rattle.rs_tree.specs.declared.tree.Param.{Param}
use Rattle.rs_lower.specs.Meanings.{is_truth_type}

-- a variable or parameter: its slot, and whether it holds a truth value
pub record Local : Type 0 where
  pub name : List ℕ
  pub slot : ℕ
  pub truth : Bool

-- the innermost first
abbrev pub Env : Type 0
Env = List Local

-- the innermost of a name
abbrev pub find : List ℕ → Env → Option Local
find name [] = None
find name (l ∷ outer) = if bytes_eq name l.name then Some l else find name outer

-- parameters have the slots from m on, and a later one hides an earlier one of its name
abbrev pub with_params : ℕ → List Param → Env → Env
with_params m [] env = env
with_params m (p ∷ more) env = with_params (m + 1) more (record { name = p.name; slot = m; truth = is_truth_type p.typ } ∷ env)
