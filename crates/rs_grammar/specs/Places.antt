-- Where the parts of a tree stand.
use Rattle.std.specs.Prelude.{◌≡◌, ◌⊎◌, ℕ, List, Some, None}
use Rattle.std.specs.List.{Contains}
use Rattle.rs_tree.specs.declared.place.At.{At}
use Rattle.rs_tree.specs.declared.token.Token.{Token}
use Rattle.rs_tree.specs.declared.tree.Expr.{Expr}
use Rattle.rs_tree.specs.declared.tree.Placed.{Placed}
use Rattle.rs_grammar.specs.Lexeme.{Lexeme, next_place, relative}
use Rattle.rs_grammar.specs.Grammar.{Matches, Nt, Expression}
use Rattle.rs_grammar.specs.Correct.{IsNameTwice, items_of}

-- an expression's place is that of its first token
abbrev pub ExpressionsBegin : Type 0
ExpressionsBegin = (tokens : List Lexeme) (e : Expr) → Matches _ (Nt Expression) tokens e → next_place tokens ≡ Some e.at

-- an item of the list has this name at this place of the text
pub record IsItemAt (items : List Placed) (at : At) (name : List ℕ) : Type 0 where
  pub placed : Placed
  pub listed : Contains items placed
  pub text : placed.item.name ≡ name
  pub place : placed.item.at ≡ relative placed.start at

-- a name that is defined twice is a module's, or that of an item, at the item's place
abbrev pub NamesTwiceStand : Type 0
NamesTwiceStand = (tokens : List Token) (at : At) (name : List ℕ) (twice : IsNameTwice tokens at name) → (twice.twice.named.module ≡ None) ⊎ IsItemAt (items_of twice.sections) at name
