-- How long what is emitted of instructions is: at most nine bytes and one relocation for each.
use Rattle.std.proofs.Common.{ℕ, ◌+◌, ◌*◌, ◌≤◌, List, [], ◌∷◌, length, arith}
use Rattle.std.proofs.lemmas.List.{length-append}
use Rattle.rs_tree.specs.declared.ir.Instr.{Instr}
use Rattle.rs_tree.specs.declared.ir.Instr.TheVariants as i
use Rattle.rs_emit.specs.Code.{size, sizes}
use Rattle.rs_emit.specs.Symbols.{reloc_of, relocs_from}

size_small : (x : Instr) → size x ≤ 9
size_small (i.Push value) = omega arith
size_small (i.Load slot) = omega arith
size_small (i.Store slot) = omega arith
size_small (i.Plain code) = omega arith
size_small (i.Jump code label) = omega arith
size_small (i.Label label) = omega arith
size_small (i.Call inline place) = omega arith

pub sizes_small : (xs : List Instr) → sizes xs ≤ 9 * length xs
sizes_small [] = omega arith
sizes_small (x ∷ xs) = omega (arith, size_small x, sizes_small xs)

reloc_few : (unit : List ℕ) (at : ℕ) (x : Instr) → length (reloc_of unit at x) ≤ 1
reloc_few unit at (i.Push value) = omega arith
reloc_few unit at (i.Load slot) = omega arith
reloc_few unit at (i.Store slot) = omega arith
reloc_few unit at (i.Plain code) = omega arith
reloc_few unit at (i.Jump code label) = omega arith
reloc_few unit at (i.Label label) = omega arith
reloc_few unit at (i.Call inline place) = omega arith

pub relocs_few : (unit : List ℕ) (at : ℕ) (xs : List Instr) → length (relocs_from unit at xs) ≤ length xs
relocs_few unit at [] = omega arith
relocs_few unit at (x ∷ xs) = omega (arith, length-append (reloc_of unit at x) (relocs_from unit (at + size x) xs), reloc_few unit at x, relocs_few unit (at + size x) xs)
