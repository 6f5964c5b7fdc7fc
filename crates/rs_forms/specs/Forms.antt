-- The bytes of items, of the index or the fault that a text has, of signatures and of the intermediate form.
use Rattle.std.specs.Prelude.{ℕ, List, [], ◌++◌}
use Rattle.std.specs.Int.{cast_unsigned, w64}
use Rattle.inc_wire.specs.Forms.{flag_form, number_form, text_form, list_form}
use Rattle.rs_tree.specs.declared.place.Place.{Place}
use Rattle.rs_tree.specs.declared.token.Token.{Token}
use Rattle.rs_tree.specs.declared.tree.Item.{Item}
use Rattle.rs_tree.specs.declared.tree.Typ.{Typ}
use Rattle.rs_tree.specs.declared.tree.Typ.TheVariants as t
use Rattle.rs_tree.specs.declared.index.Index.{Index}
use Rattle.rs_tree.specs.declared.index.IndexItem.{IndexItem}
use Rattle.rs_tree.specs.declared.index.IndexFault.{IndexFault}
use Rattle.rs_tree.specs.declared.index.TextFault.{TextFault}
use Rattle.rs_tree.specs.declared.index.TextFault.TheVariants as f
use Rattle.rs_tree.specs.declared.index.Sig.{Sig}
use Rattle.rs_tree.specs.declared.ir.Ir.{Ir}
use Rattle.rs_tree.specs.declared.ir.Instr.{Instr}
use Rattle.rs_tree.specs.declared.ir.Instr.TheVariants as i

-- a token: the lines after the item's first and the column, each in four bytes, and its text
abbrev pub token_form : Token → List ℕ
token_form token = number_form 4 token.at.line ++ (number_form 4 token.at.column ++ text_form token.text)

-- an item: the list of its tokens
abbrev pub item_form : Item → List ℕ
item_form item = list_form token_form item.tokens

-- an item of the index: its module and name, and its kind and whether it is public, each in one byte
abbrev pub index_item_form : IndexItem → List ℕ
index_item_form item = text_form item.module ++ (text_form item.name ++ (number_form 1 item.kind ++ flag_form item.public))

-- an item's place: its module and its name
abbrev pub place_form : Place → List ℕ
place_form place = text_form place.module ++ text_form place.name

-- the index of a text without fault: the byte 1, the modules and the items
abbrev pub index_form : Index → List ℕ
index_form index = number_form 1 1 ++ (list_form text_form index.modules ++ list_form index_item_form index.items)

-- faults of a text: 1 a byte at which no token begins, 2 nesting, 3 syntax, 4 a name twice
abbrev pub fault_code : TextFault → ℕ
fault_code f.Byte = 1
fault_code f.Nesting = 2
fault_code f.Syntax = 3
fault_code f.Twice = 4

abbrev pub fault_code_form : TextFault → List ℕ
fault_code_form fault = number_form 1 (fault_code fault)

-- the index of a text with a fault: the byte 0, the line and the column, each in four bytes, the fault and the name
abbrev pub fault_form : IndexFault → List ℕ
fault_form fault = number_form 1 0 ++ (number_form 4 fault.at.line ++ (number_form 4 fault.at.column ++ (fault_code_form fault.code ++ text_form fault.name)))

-- types: 0 `()`, 1 `i64`, 2 `bool`
abbrev pub typ_code : Typ → ℕ
typ_code t.Unit = 0
typ_code t.Int = 1
typ_code t.Bool = 2

abbrev pub typ_form : Typ → List ℕ
typ_form typ = number_form 1 (typ_code typ)

-- a signature: kind, whether public, the parameters' types, the type
abbrev pub sig_form : Sig → List ℕ
sig_form sig = number_form 1 sig.kind ++ (flag_form sig.public ++ (list_form typ_form sig.params ++ typ_form sig.gives))

-- an instruction's first byte
abbrev pub code_of : Instr → ℕ
code_of (i.Push value) = 1
code_of (i.Load slot) = 2
code_of (i.Store slot) = 3
code_of (i.Plain code) = code
code_of (i.Jump code label) = code
code_of (i.Label label) = 5
code_of (i.Call inline place) = 48

-- what follows it: a number in two's complement in eight bytes, a slot or a label in two bytes, or, of a
-- call, whether the function has `#[inline]` and its place
abbrev pub operand_form : Instr → List ℕ
operand_form (i.Push value) = number_form 8 (cast_unsigned w64 value)
operand_form (i.Load slot) = number_form 2 slot
operand_form (i.Store slot) = number_form 2 slot
operand_form (i.Plain code) = []
operand_form (i.Jump code label) = number_form 2 label
operand_form (i.Label label) = number_form 2 label
operand_form (i.Call inline place) = flag_form inline ++ place_form place

abbrev pub instr_form : Instr → List ℕ
instr_form instr = number_form 1 (code_of instr) ++ operand_form instr

-- the intermediate form: whether `#[inline]`, how many parameters and slots, and the instructions
abbrev pub ir_form : Ir → List ℕ
ir_form ir = flag_form ir.inline ++ (number_form 2 ir.params ++ (number_form 2 ir.slots ++ list_form instr_form ir.code))
