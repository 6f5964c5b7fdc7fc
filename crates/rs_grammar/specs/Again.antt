-- An item's tokens, with their places as the tree has them, are a text of their own.
use Rattle.std.specs.Prelude.{◌≡◌, List, [], ◌∷◌, ◌++◌}
use Rattle.rs_tree.specs.declared.token.Token.{Token}
use Rattle.rs_tree.specs.declared.tree.Crate.{Crate}
use Rattle.rs_tree.specs.declared.tree.Item.{Item}
use Rattle.rs_tree.specs.declared.tree.Placed.{Placed}
use Rattle.rs_grammar.specs.Lexeme.{nowhere}
use Rattle.rs_grammar.specs.Correct.{HasTree}

-- a crate of one item, which begins where places count from
abbrev pub alone : Item → Crate
alone item = record { modules = []; items = record { «module» = []; start = nowhere; item = item } ∷ [] }

-- the tokens of each item of a tree have that item alone as their tree
abbrev pub ItemsParseAgain : Type 0
ItemsParseAgain = (tokens : List Token) (tree : Crate) (before rest : List Placed) (placed : Placed) → HasTree tokens tree → tree.items ≡ before ++ placed ∷ rest → HasTree placed.item.tokens (alone placed.item)

-- an item follows from its tokens
abbrev pub ItemsFollow : Type 0
ItemsFollow = (a b : Item) → HasTree a.tokens (alone a) → HasTree b.tokens (alone b) → a.tokens ≡ b.tokens → a ≡ b
