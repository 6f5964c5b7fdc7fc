-- Symbols, and where code needs their functions' numbers.
use Rattle.std.specs.Prelude.{ℕ, ◌+◌, ◌&&◌, not, Bool, codes, if◌then◌else◌, List, [], ◌∷◌, ◌++◌}
use Rattle.std.specs.Str.{bytes_eq}
use Rattle.rs_tree.specs.declared.place.Place.{Place}
use Rattle.rs_tree.specs.declared.ir.Instr.{Instr}
use Rattle.rs_tree.specs.declared.ir.Instr.TheVariants as i
use Rattle.rs_emit.specs.Code.{size}

-- the function `main` of the root
abbrev pub is_main : Place → Bool
is_main p = bytes_eq [] p.«module» && bytes_eq p.name (codes "main")

-- each unit that calls a function has a copy of its own where the function has `#[inline]` and isn't the root's `main`
abbrev pub is_copied : Bool → Place → Bool
is_copied inline p = inline && not (is_main p)

-- the text of a unit: `crate`, or its module
abbrev pub unit_text : List ℕ → List ℕ
unit_text unit = if bytes_eq [] unit then codes "crate" else unit

-- `n` in the root, and `m::n` elsewhere
abbrev pub symbol_of : Place → List ℕ
symbol_of p = if bytes_eq [] p.«module» then p.name else p.«module» ++ codes "::" ++ p.name

-- the symbol of a function, and of its copy in a unit that followed by `@` and the unit
abbrev pub symbol_in : List ℕ → Bool → Place → List ℕ
symbol_in unit copied p = if copied then symbol_of p ++ codes "@" ++ unit_text unit else symbol_of p

-- the relocation of a call at an offset: its operand stands behind its code, and a function that is copied is called in
-- the unit's own copy
abbrev pub reloc_of : List ℕ → ℕ → Instr → List (ℕ × List ℕ)
reloc_of unit at (i.Push value) = []
reloc_of unit at (i.Load slot) = []
reloc_of unit at (i.Store slot) = []
reloc_of unit at (i.Plain code) = []
reloc_of unit at (i.Jump code label) = []
reloc_of unit at (i.Label label) = []
reloc_of unit at (i.Call inline p) = (at + 1, symbol_in unit (is_copied inline p) p) ∷ []

-- those of instructions from an offset on
abbrev pub relocs_from : List ℕ → ℕ → List Instr → List (ℕ × List ℕ)
relocs_from unit at [] = []
relocs_from unit at (x ∷ xs) = reloc_of unit at x ++ relocs_from unit (at + size x) xs
