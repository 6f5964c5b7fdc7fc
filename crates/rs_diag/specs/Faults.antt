-- The diagnostics of a text: the number and the text of each (docs/LANGUAGE.md, "Diagnostics").
use Rattle.std.specs.Prelude.{ℕ, Bool, true, false, codes, decimal, List, [], ◌++◌, Option, Some, None}
use Rattle.rs_tree.specs.declared.place.At.{At}
use Rattle.rs_tree.specs.declared.answers.Diag.{Diag}
use Rattle.rs_tree.specs.declared.tree.Path as path
use Rattle.rs_tree.specs.declared.tree.Typ.{Typ}
use Rattle.rs_tree.specs.declared.tree.Typ.TheVariants as t
use Rattle.rs_diag.specs.declared.fault.Want.{Want}
use Rattle.rs_diag.specs.declared.fault.Want.TheVariants as want
use Rattle.rs_diag.specs.declared.fault.Fault.{Fault}
use Rattle.rs_diag.specs.declared.fault.Fault.TheVariants as fault

-- a path as it is written, without blanks
abbrev pub rooted_text : Bool → List ℕ
rooted_text true = codes "crate::"
rooted_text false = []

abbrev pub module_text : Option (List ℕ) → List ℕ
module_text None = []
module_text (Some m) = m ++ codes "::"

abbrev pub path_text : path.Path → List ℕ
path_text p = rooted_text p.rooted ++ module_text p.module ++ p.name

abbrev pub typ_text : Typ → List ℕ
typ_text t.Unit = codes "()"
typ_text t.Int = codes "i64"
typ_text t.Bool = codes "bool"

abbrev pub want_text : Want → List ℕ
want_text (want.Of typ) = typ_text typ
want_text want.Value = codes "a value"

-- the words before a name, the name between back quotes, and the words after it
abbrev pub around : List ℕ → List ℕ → List ℕ → List ℕ
around before name after = before ++ codes "`" ++ name ++ codes "`" ++ after

-- what is wrong, with what its text names
pub data Wrong : Type 0 where
  Lost : (name : List ℕ) → Wrong
  Private : (name : List ℕ) → Wrong
  Mistyped : (wanted : Want) (found : Typ) → Wrong
  Count : (wanted found : ℕ) → Wrong
  Fixed : (name : List ℕ) → Wrong
  NoFunction : (name : List ℕ) → Wrong
  Function : (name : List ℕ) → Wrong
  Cycle : (name : List ℕ) → Wrong
  Overflow : (name : List ℕ) → Wrong
  DivZero : (name : List ℕ) → Wrong
  ConstCall : Wrong
  NoValue : (name : List ℕ) → Wrong
  NoMain : Wrong
  BadMain : Wrong
  ParamTwice : (name : List ℕ) → Wrong
  Constant : (name : List ℕ) → Wrong
  Unused : (name : List ℕ) → Wrong
  Dead : (name : List ℕ) → Wrong

abbrev pub code : Wrong → ℕ
code (Lost name) = 101
code (Private name) = 102
code (Mistyped wanted found) = 103
code (Count wanted found) = 104
code (Fixed name) = 105
code (NoFunction name) = 106
code (Function name) = 107
code (Cycle name) = 108
code (Overflow name) = 109
code (DivZero name) = 110
code ConstCall = 111
code (NoValue name) = 112
code NoMain = 113
code BadMain = 114
code (ParamTwice name) = 115
code (Constant name) = 117
code (Unused name) = 201
code (Dead name) = 202

abbrev pub text : Wrong → List ℕ
text (Lost name) = around (codes "cannot find ") name []
text (Private name) = around [] name (codes " is private")
text (Mistyped wanted found) = codes "expected " ++ want_text wanted ++ codes ", found " ++ typ_text found
text (Count wanted found) = codes "expected " ++ decimal wanted ++ codes " arguments, found " ++ decimal found
text (Fixed name) = around (codes "cannot assign to ") name []
text (NoFunction name) = around [] name (codes " is not a function")
text (Function name) = around [] name (codes " is a function")
text (Cycle name) = around (codes "cycle in constant ") name []
text (Overflow name) = around (codes "constant ") name (codes " overflows")
text (DivZero name) = around (codes "constant ") name (codes " divides by zero")
text ConstCall = codes "call in a constant"
text (NoValue name) = around (codes "missing value at the end of ") name []
text NoMain = codes "no function `main`"
text BadMain = codes "`main` takes nothing and gives nothing"
text (ParamTwice name) = around (codes "parameter ") name (codes " twice")
text (Constant name) = around [] name (codes " is a constant")
text (Unused name) = around (codes "unused variable ") name []
text (Dead name) = around (codes "function ") name (codes " is never used")

-- the code's fault, plainly
abbrev pub plain : Fault → Wrong
plain (fault.Lost p) = Lost (path_text p.now)
plain (fault.NoLocal name) = Lost name.now
plain (fault.Private p) = Private (path_text p.now)
plain (fault.Mistyped wanted found) = Mistyped wanted found
plain (fault.Count wanted found) = Count wanted found
plain (fault.Fixed name) = Fixed name.now
plain (fault.NoFunction p) = NoFunction (path_text p.now)
plain (fault.Function p) = Function (path_text p.now)
plain (fault.Cycle name) = Cycle name.now
plain (fault.Overflow name) = Overflow name.now
plain (fault.DivZero name) = DivZero name.now
plain fault.ConstCall = ConstCall
plain (fault.NoValue name) = NoValue name.now
plain fault.NoMain = NoMain
plain fault.BadMain = BadMain
plain (fault.ParamTwice name) = ParamTwice name.now
plain (fault.Constant name) = Constant name.now
plain (fault.Unused name) = Unused name.now
plain (fault.Dead name) = Dead name.now

-- a diagnostic at a place
abbrev pub diag : At → Wrong → Diag
diag at wrong = record { at = at; code = code wrong; text = text wrong }
