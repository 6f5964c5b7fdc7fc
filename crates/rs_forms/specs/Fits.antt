-- The values of the types: what clauses see as numbers and lists is in its range.
use Rattle.std.specs.Prelude.{◌≡◌, ℕ, ◌^◌, ◌<◌, ◌≤◌, ◌⊎◌, FitsSigned}
use Rattle.std.specs.Int.{w64}
use Rattle.rs_tree.specs.declared.place.Place.{Place}
use Rattle.rs_tree.specs.declared.token.Token.{Token}
use Rattle.rs_tree.specs.declared.index.Index.{Index}
use Rattle.rs_tree.specs.declared.index.IndexItem.{IndexItem}
use Rattle.rs_tree.specs.declared.index.IndexFault.{IndexFault}
use Rattle.rs_tree.specs.declared.index.Sig.{Sig}
use Rattle.rs_tree.specs.declared.ir.Ir.{Ir}
use Rattle.rs_tree.specs.declared.ir.Instr.{Instr}
use Rattle.rs_tree.specs.declared.ir.Instr.TheVariants as i
use Rattle.inc_wire.specs.Fits.{Always, FitsList, FitsText}
use Rattle.rs_forms.specs.Forms.{code_of}

pub record FitsToken (token : Token) : Type 0 where
  pub line : token.at.line < 2 ^ 32
  pub column : token.at.column < 2 ^ 32
  pub text : FitsText token.text

pub record FitsPlace (place : Place) : Type 0 where
  pub «module» : FitsText place.module
  pub name : FitsText place.name

pub record FitsIndexItem (item : IndexItem) : Type 0 where
  pub «module» : FitsText item.module
  pub name : FitsText item.name
  pub kind : item.kind < 2 ^ 8

pub record FitsIndex (index : Index) : Type 0 where
  pub modules : FitsList FitsText index.modules
  pub items : FitsList FitsIndexItem index.items

pub record FitsFault (fault : IndexFault) : Type 0 where
  pub line : fault.at.line < 2 ^ 32
  pub column : fault.at.column < 2 ^ 32
  pub name : FitsText fault.name

pub record FitsSig (sig : Sig) : Type 0 where
  pub kind : sig.kind < 2 ^ 8
  pub params : FitsList Always sig.params

-- the codes of instructions without an operand
abbrev pub IsPlainCode : ℕ → Type 0
IsPlainCode c = (c ≡ 4) ⊎ ((16 ≤ c) × (c ≤ 28)) ⊎ (c ≡ 32) ⊎ (c ≡ 33) ⊎ (c ≡ 49) ⊎ (c ≡ 50)

-- the codes of jumps
abbrev pub IsJumpCode : ℕ → Type 0
IsJumpCode c = (c ≡ 40) ⊎ (c ≡ 41) ⊎ (c ≡ 42)

-- an instruction that is named by its code has one of the codes of its kind
abbrev pub HasOwnCode : Instr → Type 0
HasOwnCode (i.Push value) = Unit {0}
HasOwnCode (i.Load slot) = Unit {0}
HasOwnCode (i.Store slot) = Unit {0}
HasOwnCode (i.Plain code) = IsPlainCode code
HasOwnCode (i.Jump code label) = IsJumpCode code
HasOwnCode (i.Label label) = Unit {0}
HasOwnCode (i.Call inline place) = Unit {0}

-- an instruction's codes and operands are those of the form
abbrev pub FitsInstr : Instr → Type 0
FitsInstr (i.Push value) = FitsSigned w64 value
FitsInstr (i.Load slot) = slot < 2 ^ 16
FitsInstr (i.Store slot) = slot < 2 ^ 16
FitsInstr (i.Plain code) = IsPlainCode code
FitsInstr (i.Jump code label) = IsJumpCode code × (label < 2 ^ 16)
FitsInstr (i.Label label) = label < 2 ^ 16
FitsInstr (i.Call inline place) = FitsPlace place

-- an instruction of this code
pub record HasCode (code : ℕ) (instr : Instr) : Type 0 where
  pub fits : FitsInstr instr
  pub is : code_of instr ≡ code

pub record FitsIr (ir : Ir) : Type 0 where
  pub params : ir.params < 2 ^ 16
  pub slots : ir.slots < 2 ^ 16
  pub code : FitsList FitsInstr ir.code
