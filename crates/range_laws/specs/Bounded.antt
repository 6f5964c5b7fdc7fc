-- The tree of a text of at most 1,048,576 bytes: no part of it is larger than the text.
use Rattle.std.specs.Prelude.{ℕ, ◌+◌, ◌≤◌, List, length, Option, Some, None, FitsSigned}
use Rattle.std.specs.Int.{w64}
use Rattle.std.specs.List.{AllByRecursion}
use Rattle.rs_tree.specs.declared.place.At.{At}
use Rattle.rs_tree.specs.declared.tree.Crate.{Crate}
use Rattle.rs_tree.specs.declared.tree.Param.{Param}
use Rattle.rs_tree.specs.declared.tree.Path as path
use Rattle.rs_tree.specs.declared.tree.Placed.{Placed}
use Rattle.rs_tree.specs.Plain.{Exp, Exps, Operands, Number, Truth, Path, Call, Group, Unary, Arith, Compare, And, Or, Done, By}
use Rattle.rs_tree.specs.Plain.{Sta, Stas, Arms, Let, Assign, Return, Eval, While, If, Print, Bare, Else, Arm, Definition, Const, Func, definition}
use Rattle.range_laws.specs.Sizes.{definition_size}

-- the most bytes of a text
abbrev pub most : ℕ
most = 1048576

abbrev pub IsShort : List ℕ → Type 0
IsShort text = length text ≤ most

-- a place in a text, or relative to one: lines and columns count from 0 or from 1
pub record IsNear (at : At) : Type 0 where
  pub line : at.line ≤ most + 1
  pub column : at.column ≤ most + 1

abbrev pub IsShortIn : Option (List ℕ) → Type 0
IsShortIn None = Unit {0}
IsShortIn (Some text) = IsShort text

pub record BoundedPath (p : path.Path) : Type 0 where
  pub at : IsNear p.at
  pub «module» : IsShortIn p.module
  pub name : IsShort p.name

-- each place, name and number in an expression
abbrev mutual
  pub BoundedExp : Exp path.Path → Type 0
  BoundedExp (Number at n) = IsNear at × FitsSigned w64 n
  BoundedExp (Truth at b) = IsNear at
  BoundedExp (Path at p) = IsNear at × BoundedPath p
  BoundedExp (Call at p args) = IsNear at × BoundedPath p × BoundedAll args
  BoundedExp (Group at e) = IsNear at × BoundedExp e
  BoundedExp (Unary at op e) = IsNear at × BoundedExp e
  BoundedExp (Arith at first more) = IsNear at × BoundedExp first × BoundedBy more
  BoundedExp (Compare at op a b) = IsNear at × BoundedExp a × BoundedExp b
  BoundedExp (And at parts) = IsNear at × BoundedAll parts
  BoundedExp (Or at parts) = IsNear at × BoundedAll parts

  pub BoundedAll : Exps path.Path → Type 0
  BoundedAll Exps.Empty = Unit {0}
  BoundedAll (Exps.Of e more) = BoundedExp e × BoundedAll more

  pub BoundedBy : Operands path.Path → Type 0
  BoundedBy Done = Unit {0}
  BoundedBy (By op e more) = BoundedExp e × BoundedBy more

abbrev pub BoundedIn : Option (Exp path.Path) → Type 0
BoundedIn None = Unit {0}
BoundedIn (Some e) = BoundedExp e

abbrev mutual
  pub BoundedSta : Sta path.Path → Type 0
  BoundedSta (Let mutable at name typ value) = IsNear at × IsShort name × BoundedExp value
  BoundedSta (Assign at name value) = IsNear at × IsShort name × BoundedExp value
  BoundedSta (Return at value) = IsNear at × BoundedIn value
  BoundedSta (Eval value) = BoundedExp value
  BoundedSta (While cond body) = BoundedExp cond × BoundedStas body
  BoundedSta (If arms) = BoundedArms arms
  BoundedSta (Print value) = BoundedExp value

  pub BoundedStas : Stas path.Path → Type 0
  BoundedStas Stas.Empty = Unit {0}
  BoundedStas (Stas.Of s more) = BoundedSta s × BoundedStas more

  pub BoundedArms : Arms path.Path → Type 0
  BoundedArms Bare = Unit {0}
  BoundedArms (Else body) = BoundedStas body
  BoundedArms (Arm cond body more) = BoundedExp cond × BoundedStas body × BoundedArms more

pub record BoundedParam (p : Param) : Type 0 where
  pub at : IsNear p.at
  pub name : IsShort p.name

abbrev pub BoundedDefinition : Definition path.Path → Type 0
BoundedDefinition (Const typ value) = BoundedExp value
BoundedDefinition (Func inlined params gives stmts tail) = AllByRecursion BoundedParam params × BoundedStas stmts × BoundedIn tail

-- an item: what stands in it, and how large it is
pub record BoundedItem (placed : Placed) : Type 0 where
  pub «module» : IsShort placed.module
  pub start : IsNear placed.start
  pub name : IsShort placed.item.name
  pub at : IsNear placed.item.at
  pub inside : BoundedDefinition (definition placed.item.body)
  pub small : definition_size (definition placed.item.body) ≤ most

pub record BoundedCrate (krate : Crate) : Type 0 where
  pub modules : AllByRecursion IsShort krate.modules
  pub few_modules : length krate.modules ≤ most
  pub items : AllByRecursion BoundedItem krate.items
  pub few_items : length krate.items ≤ most
