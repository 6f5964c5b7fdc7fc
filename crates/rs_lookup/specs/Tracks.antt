-- The map leads each name to the position of its innermost local, and each local has the position of what it hides.
use Rattle.std.specs.Prelude.{◌≡◌, ℕ, if◌then◌else◌, List, [], ◌∷◌, length, Option, Some, None}
use Rattle.std.specs.Ordering.{nat_cmp}
use Rattle.std.specs.Cmp.Lexicographic.{slice_cmp}
use Rattle.std.specs.Str.{bytes_eq}
use Rattle.std.specs.Borrow.{Bor}
use Rattle.std.specs.declared.cmp.Ordering.{Ordering}
use Rattle.std.specs.BTreeMap as map
use Rattle.std.specs.declared.collections.BTreeMap.{BTreeMap}
use Rattle.std.specs.declared.alloc.Global.{Global}
use Rattle.rs_lookup.specs.declared.scope.Entry.{Entry}
use Rattle.rs_lookup.specs.Env.{Env}

-- the order of the map's keys
abbrev pub name_cmp : Bor (List ℕ) → Bor (List ℕ) → Ordering
name_cmp a b = slice_cmp nat_cmp a.now b.now

abbrev pub shown : List Entry → Env
shown [] = []
shown (e ∷ older) = (e.name.now, e.number) ∷ shown older

-- the position, counted from the outermost, of a name's innermost local
abbrev pub place : List ℕ → List Entry → Option ℕ
place name [] = None
place name (e ∷ older) = if bytes_eq name e.name.now then Some (length older) else place name older

abbrev pub Hides : List Entry → Type 0
Hides [] = Unit {0}
Hides (e ∷ older) = (e.hidden ≡ place e.name.now older) × Hides older

pub record Tracks (newest : BTreeMap (Bor (List ℕ)) ℕ Global) (es : List Entry) : Type 0 where
  pub leads : (name : Bor (List ℕ)) → map.get name_cmp newest name ≡ place name.now es
  pub hides : Hides es
