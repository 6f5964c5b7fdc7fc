-- Trees are tidy: what is named has a name of the language, nothing is defined twice, and items stand in modules
-- that are listed.
use Rattle.std.specs.Prelude.{◌≡◌, ◌≢◌, ◌⊎◌, ℕ, List, [], ◌∷◌, ◌++◌, map, Option, Some, None, codes}
use Rattle.std.specs.List.{Contains}
use Rattle.inc_base.specs.Texts.{IsName}
use Rattle.rs_tree.specs.Kinds.{kind_of}
use Rattle.rs_tree.specs.declared.kind.Kind.TheVariants as k
use Rattle.rs_tree.specs.declared.token.Token.{Token}
use Rattle.rs_tree.specs.declared.tree.Crate.{Crate}
use Rattle.rs_tree.specs.declared.tree.Param.{Param}
use Rattle.rs_tree.specs.declared.tree.Path as path
use Rattle.rs_tree.specs.declared.tree.Placed.{Placed}
use Rattle.rs_tree.specs.Plain.{Exp, Exps, Operands, Number, Truth, Path, Call, Group, Unary, Arith, Compare, And, Or, Done, By, Sta, Stas, Arms, Let, Assign, Return, Eval, While, If, Print, Bare, Else, Arm, Definition, Const, Func, definition}
use Rattle.rs_grammar.specs.Correct.{HasTree}

-- an identifier that is no keyword
abbrev pub IsNameOfLanguage : List ℕ → Type 0
IsNameOfLanguage text = kind_of text ≡ Some k.Name

abbrev pub IsOptionalName : Option (List ℕ) → Type 0
IsOptionalName None = Unit {0}
IsOptionalName (Some name) = IsNameOfLanguage name

-- each element is so
abbrev pub Throughout : {X : Type 0} → (X → Type 0) → List X → Type 0
Throughout P [] = Unit {0}
Throughout P (x ∷ xs) = P x × Throughout P xs

abbrev pub PathNamed : path.Path → Type 0
PathNamed p = IsOptionalName p.module × IsNameOfLanguage p.name

-- each path of an expression has names of the language
abbrev mutual
  pub ExpNamed : Exp path.Path → Type 0
  ExpNamed (Number at n) = Unit {0}
  ExpNamed (Truth at b) = Unit {0}
  ExpNamed (Path at p) = PathNamed p
  ExpNamed (Call at p args) = PathNamed p × ExpsNamed args
  ExpNamed (Group at e) = ExpNamed e
  ExpNamed (Unary at op e) = ExpNamed e
  ExpNamed (Arith at e more) = ExpNamed e × OperandsNamed more
  ExpNamed (Compare at op a b) = ExpNamed a × ExpNamed b
  ExpNamed (And at parts) = ExpsNamed parts
  ExpNamed (Or at parts) = ExpsNamed parts

  pub ExpsNamed : Exps path.Path → Type 0
  ExpsNamed Exps.Empty = Unit {0}
  ExpsNamed (Exps.Of e more) = ExpNamed e × ExpsNamed more

  pub OperandsNamed : Operands path.Path → Type 0
  OperandsNamed Done = Unit {0}
  OperandsNamed (By op e more) = ExpNamed e × OperandsNamed more

abbrev pub OptionNamed : Option (Exp path.Path) → Type 0
OptionNamed None = Unit {0}
OptionNamed (Some e) = ExpNamed e

-- each variable and each path of a statement has
abbrev mutual
  pub StaNamed : Sta path.Path → Type 0
  StaNamed (Let mutable at name typ value) = IsNameOfLanguage name × ExpNamed value
  StaNamed (Assign at name value) = IsNameOfLanguage name × ExpNamed value
  StaNamed (Return at value) = OptionNamed value
  StaNamed (Eval value) = ExpNamed value
  StaNamed (While cond body) = ExpNamed cond × StasNamed body
  StaNamed (If arms) = ArmsNamed arms
  StaNamed (Print value) = ExpNamed value

  pub StasNamed : Stas path.Path → Type 0
  StasNamed Stas.Empty = Unit {0}
  StasNamed (Stas.Of s more) = StaNamed s × StasNamed more

  pub ArmsNamed : Arms path.Path → Type 0
  ArmsNamed Bare = Unit {0}
  ArmsNamed (Else body) = StasNamed body
  ArmsNamed (Arm cond body more) = ExpNamed cond × StasNamed body × ArmsNamed more

abbrev pub ParamNamed : Param → Type 0
ParamNamed p = IsNameOfLanguage p.name

abbrev pub DefinitionNamed : Definition path.Path → Type 0
DefinitionNamed (Const typ value) = ExpNamed value
DefinitionNamed (Func inlined params gives stmts tail) = Throughout ParamNamed params × StasNamed stmts × OptionNamed tail

-- an item, its parameters, variables and paths
pub record IsNamed (placed : Placed) : Type 0 where
  pub name : IsNameOfLanguage placed.item.name
  pub body : DefinitionNamed (definition placed.item.body)

-- no element stands twice
abbrev pub Distinct : {X : Type 0} → List X → Type 0
Distinct {X} xs = (before : List X) (x : X) (rest : List X) → xs ≡ before ++ x ∷ rest → Contains before x → ⊥

-- the module and the name of an item
abbrev pub place_in : Placed → List ℕ × List ℕ
place_in placed = (placed.module, placed.item.name)

-- the root's, or one that is listed
abbrev pub IsListed : List (List ℕ) → Placed → Type 0
IsListed modules placed = (placed.module ≡ []) ⊎ Contains modules placed.module

pub record IsTidyCrate (tree : Crate) : Type 0 where
  pub modules : Distinct tree.modules
  pub items : Distinct (map place_in tree.items)
  pub listed : Throughout (IsListed tree.modules) tree.items
  pub names : Throughout IsNameOfLanguage tree.modules
  pub named : Throughout IsNamed tree.items

-- each tree of a text is tidy
abbrev pub TreesAreTidy : Type 0
TreesAreTidy = (tokens : List Token) (tree : Crate) → HasTree tokens tree → IsTidyCrate tree

-- a name of the language is a name of 1 to 64 letters, digits and `_`, and not `crate`
pub record IsPlainName (text : List ℕ) : Type 0 where
  pub name : IsName text
  pub other : text ≢ codes "crate"

abbrev pub NamesArePlain : Type 0
NamesArePlain = (text : List ℕ) → IsNameOfLanguage text → IsPlainName text
