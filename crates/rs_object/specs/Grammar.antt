-- Where the relocations of a function may stand.
use Rattle.std.specs.Prelude.{◌≡◌, ℕ, ◌+◌, ◌≤◌, ◌&&◌, Bool, true, nat_le, List, [], ◌∷◌, take, drop, All}
use Rattle.std.specs.Str.{bytes_eq}
use Rattle.rs_object.specs.declared.object.Func.{Func}
use Rattle.rs_object.specs.declared.object.Object.{Object}

-- A relocation stands at an offset from `from` on. The four bytes there lie in the code, and are zero.
pub record IsReloc (from : ℕ) (code : List ℕ) (at : ℕ) : Type 0 where
  pub behind : from ≤ at
  pub zeros : take 4 (drop at code) ≡ 0 ∷ 0 ∷ 0 ∷ 0 ∷ []

-- relocations ascend, and are at least 4 apart
abbrev pub AreRelocs : ℕ → List ℕ → List (ℕ × List ℕ) → Type 0
AreRelocs from code [] = Unit {0}
AreRelocs from code (r ∷ rs) = IsReloc from code r.0 × AreRelocs (r.0 + 4) code rs

-- the same, as a test
abbrev pub are_relocs : ℕ → List ℕ → List (ℕ × List ℕ) → Bool
are_relocs from code [] = true
are_relocs from code (r ∷ rs) = nat_le from r.0 && bytes_eq (take 4 (drop r.0 code)) (0 ∷ 0 ∷ 0 ∷ 0 ∷ []) && are_relocs (r.0 + 4) code rs

-- those of a function
abbrev pub HasRelocs : Func → Type 0
HasRelocs f = AreRelocs 0 f.code f.relocs

-- An object is in the grammar where each of its functions' relocations are. It asks nothing else: the unit and the
-- symbols may be any texts, the code any bytes.
abbrev pub InGrammar : Object → Type 0
InGrammar o = All HasRelocs o.funcs
