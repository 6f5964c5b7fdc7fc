-- The bytes of an image.
use Rattle.std.specs.Prelude.{ℕ, ◌+◌, List, ◌++◌, length, take, drop, codes, unwrap_or}
use Rattle.std.specs.List.{flat_map, fold}
use Rattle.inc_wire.specs.Forms.{number_form, text_form}
use Rattle.rs_object.specs.declared.object.Func.{Func}
use Rattle.rs_link.specs.Symbols.{number_of}

-- the code with a number in the four bytes at an offset
abbrev pub with_number : List ℕ → ℕ → ℕ → List ℕ
with_number code at n = take at code ++ (number_form 4 n ++ drop (at + 4) code)

-- each relocation's place holds the number of the function with its symbol
abbrev pub linked_code : List Func → List ℕ → List (ℕ × List ℕ) → List ℕ
linked_code all code relocs = fold (λ c r. with_number c r.0 (unwrap_or (number_of all r.1) 0)) code relocs

-- what of a function an image keeps: its parameters and its slots in two bytes each, and its code
abbrev pub body_form : List Func → Func → List ℕ
body_form all f = number_form 2 f.params ++ (number_form 2 f.slots ++ text_form (linked_code all f.code f.relocs))

-- an image: `RIMG`, format 1 in two bytes, how many functions it has and the number of its `main` in four bytes each, and
-- the functions
abbrev pub image_form : ℕ → List Func → List ℕ
image_form main fs = codes "RIMG" ++ (number_form 2 1 ++ (number_form 4 (length fs) ++ (number_form 4 main ++ flat_map (body_form fs) fs)))
