-- The bytes of objects.
use Rattle.std.specs.Prelude.{ℕ, List, ◌++◌}
use Rattle.inc_wire.specs.Forms.{number_form, text_form, list_form}
use Rattle.rs_object.specs.declared.object.Func.{Func}
use Rattle.rs_object.specs.declared.object.Object.{Object}

-- a relocation: its offset in four bytes, and its symbol
abbrev pub reloc_form : ℕ × List ℕ → List ℕ
reloc_form r = number_form 4 r.0 ++ text_form r.1

-- a function: its symbol, its parameters and its slots in two bytes each, its code, and the list of its relocations
abbrev pub func_form : Func → List ℕ
func_form f = text_form f.symbol ++ (number_form 2 f.params ++ (number_form 2 f.slots ++ (text_form f.code ++ list_form reloc_form f.relocs)))

-- the bytes `INCO`, as a number in four bytes
abbrev pub object_mark : ℕ
object_mark = 0x494e434f

-- an object: its mark, format 1 in two bytes, its unit, and the list of its functions
abbrev pub object_form : Object → List ℕ
object_form o = number_form 4 object_mark ++ (number_form 2 1 ++ (text_form o.unit ++ list_form func_form o.funcs))
