-- The names of a scope, after a look-up and after leaving a block.
use Rattle.std.proofs.Common.{◌≡◌, ℕ, zero, suc, Bool, true, false, cond, ◌||◌, List, [], ◌∷◌, length, drop, Option, Some, refl, ap}
use Rattle.std.specs.Option.{is_some}
use Rattle.std.specs.List.{list_any}
use Rattle.std.specs.Str.{bytes_eq}
use Rattle.rs_lookup.specs.Env.{Env, find}
use Rattle.rs_names.specs.Names.{names_of}

some_step : (b : Bool) (n : ℕ) (o : Option ℕ) (rest : Bool) → is_some o ≡ rest → is_some (cond b (Some n) o) ≡ (b || rest)
some_step true n o rest e = refl
some_step false n o rest e = e

pub has_name : (name : List ℕ) (env : Env) → is_some (find name env) ≡ list_any (bytes_eq name) (names_of env)
has_name name [] = refl
has_name name (l ∷ older) = some_step (bytes_eq name l.0) l.1 (find name older) (list_any (bytes_eq name) (names_of older)) (has_name name older)

pub names_length : (env : Env) → length (names_of env) ≡ length env
names_length [] = refl
names_length (l ∷ older) = ap suc (names_length older)

pub names_drop : (n : ℕ) (env : Env) → names_of (drop n env) ≡ drop n (names_of env)
names_drop zero env = refl
names_drop (suc n) [] = refl
names_drop (suc n) (l ∷ older) = names_drop n older

pub ruleset names = (has_name, names_length, names_drop)
