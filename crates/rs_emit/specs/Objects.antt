-- The object of a unit.
use Rattle.std.specs.Prelude.{ℕ, List, map}
use Rattle.rs_tree.specs.declared.place.Place.{Place}
use Rattle.rs_tree.specs.declared.ir.Ir.{Ir}
use Rattle.rs_object.specs.declared.object.Func.{Func}
use Rattle.rs_object.specs.declared.object.Object.{Object}
use Rattle.rs_emit.specs.Code.{code_of}
use Rattle.rs_emit.specs.Symbols.{symbol_in, unit_text, relocs_from, is_copied}

-- a member's function: its symbol in the unit, the parameters and slots of its form, its code, and a relocation for each
-- call
abbrev pub func_of : List ℕ → Place × Ir → Func
func_of unit m = record {
  symbol = symbol_in unit (is_copied m.1.inline m.0) m.0;
  params = m.1.params;
  slots = m.1.slots;
  code = code_of m.1.code;
  relocs = relocs_from unit 0 m.1.code;
}

-- the unit's text, and its members' functions in their order
abbrev pub object_of : List ℕ → List (Place × Ir) → Object
object_of unit members = record { unit = unit_text unit; funcs = map (func_of unit) members }
