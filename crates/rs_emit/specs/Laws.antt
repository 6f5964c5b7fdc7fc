-- What the code of instructions is.
use Rattle.std.specs.Prelude.{◌≡◌, ℕ, false, List, ◌∷◌, ◌++◌, length, Some}
use Rattle.std.specs.List.{All}
use Rattle.rs_tree.specs.declared.place.Place.{Place}
use Rattle.rs_tree.specs.declared.ir.Ir.{Ir}
use Rattle.rs_tree.specs.declared.ir.Instr.{Instr}
use Rattle.rs_tree.specs.declared.ir.Instr.TheVariants as i
use Rattle.rs_object.specs.Grammar.{HasRelocs}
use Rattle.rs_emit.specs.Code.{sizes, is_place, offset_of, code_of}
use Rattle.rs_emit.specs.Objects.{func_of}

-- a label's offset is the sum of the lengths before its place, behind which it has no other
abbrev pub OffsetsAreSums : Type 0
OffsetsAreSums = (front rest : List Instr) (l : ℕ) → All (λ x. is_place l x ≡ false) rest → offset_of l (front ++ i.Label l ∷ rest) ≡ Some (sizes front)

-- the code is as long as the lengths say
abbrev pub CodeHasLength : Type 0
CodeHasLength = (xs : List Instr) → length (code_of xs) ≡ sizes xs

-- relocations are those of the grammar
abbrev pub RelocsAreRight : Type 0
RelocsAreRight = (unit : List ℕ) (m : Place × Ir) → HasRelocs (func_of unit m)
