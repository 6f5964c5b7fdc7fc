-- What a parse of a whole list of tokens answers (docs/LANGUAGE.md, "Faults").
use Rattle.std.specs.Prelude.{◌≡◌, ℕ, List, [], ◌∷◌, ◌++◌, map, Some, None}
use Rattle.rs_tree.specs.declared.place.At.{At}
use Rattle.rs_tree.specs.declared.token.Token.{Token}
use Rattle.rs_tree.specs.declared.tree.Crate.{Crate}
use Rattle.rs_tree.specs.declared.tree.Placed.{Placed}
use Rattle.rs_grammar.specs.declared.fault.SyntaxFault.{SyntaxFault}
use Rattle.rs_grammar.specs.declared.fault.SyntaxFault.TheVariants as fault
use Rattle.rs_grammar.specs.declared.named.Named.{Named}
use Rattle.rs_grammar.specs.declared.sited.Sited.{Sited}
use Rattle.rs_grammar.specs.Lexeme.{Lexeme, lexemes}
use Rattle.rs_grammar.specs.Grammar.{Section, Module, Alone, Version, Factored, MatchesIn, IsFrontIn, Nt, Text}
use Rattle.rs_grammar.specs.Nesting.{IsShallow, IsTooDeep}
use Rattle.rs_grammar.specs.Twice.{AllOnce, IsTwiceAt}

-- an item in the module of this name
abbrev pub placed_in : List ℕ → Sited → Placed
placed_in name s = record s.placed { «module» = name }

abbrev pub name_in : List ℕ → Sited → Named
name_in name s = record { at = s.at; «module» = Some name; name = s.placed.item.name }

-- by one of the grammars the sections fit the tokens
abbrev pub FitsCrateIn : Version → List Lexeme → List Section → Type 0
FitsCrateIn v tokens sections = MatchesIn v _ (Nt Text) tokens sections

-- The tokens before are a front of the grammar, and with the first of the rest they are not. At the end the
-- list is a front, and nothing fits it.
abbrev pub IsFaultIn : Version → List Lexeme → List Lexeme → Type 0
IsFaultIn v before (t ∷ rest) = IsFrontIn v _ (Nt Text) before × (IsFrontIn v _ (Nt Text) (before ++ t ∷ []) → ⊥)
IsFaultIn v before [] = IsFrontIn v _ (Nt Text) before × ((sections : List Section) → FitsCrateIn v before sections → ⊥)

-- the modules of a text, and its items, each in its module, in order of the text
abbrev pub modules_of : List Section → List (List ℕ)
modules_of [] = []
modules_of (Module at name items ∷ more) = name ∷ modules_of more
modules_of (Alone item ∷ more) = modules_of more

abbrev pub items_of : List Section → List Placed
items_of [] = []
items_of (Module at name items ∷ more) = map (placed_in name) items ++ items_of more
items_of (Alone item ∷ more) = placed_in [] item ∷ items_of more

abbrev pub crate_of : List Section → Crate
crate_of sections = record { modules = modules_of sections; items = items_of sections }

-- the names that a text defines, in its order
abbrev pub names_of : List Section → List Named
names_of [] = []
names_of (Module at name items ∷ more) = record { at = at; «module» = None; name = name } ∷ (map (name_in name) items ++ names_of more)
names_of (Alone item ∷ more) = name_in [] item ∷ names_of more

-- a crate whose tree fits the tokens, as no other does
pub record HasTreeIn (v : Version) (tokens : List Token) (tree : Crate) : Type 0 where
  pub shallow : IsShallow (lexemes tokens)
  pub sections : List Section
  pub fit : FitsCrateIn v (lexemes tokens) sections
  pub only : (others : List Section) → FitsCrateIn v (lexemes tokens) others → others ≡ sections
  pub once : AllOnce (names_of sections)
  pub makes : tree ≡ crate_of sections

-- where the rest of a text begins
abbrev pub rest_place : At → List Lexeme → At
rest_place end [] = end
rest_place end (t ∷ rest) = t.at

-- the place of the first token that can't stand where it does, or of the end
pub record IsSyntaxFaultIn (v : Version) (tokens : List Token) (end at : At) : Type 0 where
  pub shallow : IsShallow (lexemes tokens)
  pub before : List Lexeme
  pub rest : List Lexeme
  pub parts : lexemes tokens ≡ before ++ rest
  pub fault : IsFaultIn v before rest
  pub place : at ≡ rest_place end rest

-- the first name that an earlier one clashes with, in a text whose tokens fit
pub record IsNameTwiceIn (v : Version) (tokens : List Token) (at : At) (name : List ℕ) : Type 0 where
  pub shallow : IsShallow (lexemes tokens)
  pub sections : List Section
  pub fit : FitsCrateIn v (lexemes tokens) sections
  pub only : (others : List Section) → FitsCrateIn v (lexemes tokens) others → others ≡ sections
  pub twice : IsTwiceAt (names_of sections) at name

-- The first fault of a text: nesting, then syntax, then a name defined twice. Want of memory says nothing.
abbrev pub IsSyntaxRefusalIn : Version → List Token → At → SyntaxFault → Type 0
IsSyntaxRefusalIn v tokens end (fault.Nesting at) = IsTooDeep (lexemes tokens) at
IsSyntaxRefusalIn v tokens end (fault.Syntax at) = IsSyntaxFaultIn v tokens end at
IsSyntaxRefusalIn v tokens end (fault.Twice at name) = IsNameTwiceIn v tokens at name
IsSyntaxRefusalIn v tokens end fault.Memory = Unit {0}

-- the same by the factored grammar

abbrev pub FitsCrate : List Lexeme → List Section → Type 0
FitsCrate tokens sections = FitsCrateIn Factored tokens sections

abbrev pub IsFault : List Lexeme → List Lexeme → Type 0
IsFault before rest = IsFaultIn Factored before rest

abbrev pub HasTree : List Token → Crate → Type 0
HasTree tokens tree = HasTreeIn Factored tokens tree

abbrev pub IsSyntaxFault : List Token → At → At → Type 0
IsSyntaxFault tokens end at = IsSyntaxFaultIn Factored tokens end at

abbrev pub IsNameTwice : List Token → At → List ℕ → Type 0
IsNameTwice tokens at name = IsNameTwiceIn Factored tokens at name

abbrev pub IsSyntaxRefusal : List Token → At → SyntaxFault → Type 0
IsSyntaxRefusal tokens end fault = IsSyntaxRefusalIn Factored tokens end fault
