-- Tokens as the lexer gives them, and places in an item and in its text.
use Rattle.std.specs.Prelude.{◌≡◌, ◌⊎◌, ◌+◌, ◌<◌, ◌==◌, true, if◌then◌else◌, is_some, List, [], ◌∷◌}
use Rattle.rs_tree.specs.Kinds.{kind_of}
use Rattle.rs_tree.specs.declared.place.At.{At}
use Rattle.rs_tree.specs.declared.token.Token.{Token}
use Rattle.rs_grammar.specs.Lexeme.{relative}

-- on an earlier line, or before it on the same line
abbrev pub IsBefore : At → At → Type 0
IsBefore a b = (a.line < b.line) ⊎ ((a.line ≡ b.line) × (a.column < b.column))

abbrev pub IsNotAfter : At → At → Type 0
IsNotAfter a b = (a ≡ b) ⊎ IsBefore a b

-- where these begin, or where the text ends
abbrev pub first_or : At → List Token → At
first_or end [] = end
first_or end (t ∷ ts) = t.at

-- each begins before the next, and the last one before the end
abbrev pub Ascend : At → List Token → Type 0
Ascend end [] = Unit {0}
Ascend end (t ∷ ts) = IsBefore t.at (first_or end ts) × Ascend end ts

-- each text is a token
abbrev pub AreTokens : List Token → Type 0
AreTokens [] = Unit {0}
AreTokens (t ∷ ts) = (is_some (kind_of t.text) ≡ true) × AreTokens ts

-- tokens of a text that ends at this place, in their order
pub record IsLexed (tokens : List Token) (end : At) : Type 0 where
  pub texts : AreTokens tokens
  pub places : Ascend end tokens

-- The place in the text that is seen from `base` as this one: so many lines further, and on the line of `base`
-- its column further.
abbrev pub absolute : At → At → At
absolute base at = record { line = base.line + at.line; column = if at.line == 0 then base.column + at.column else at.column }

-- A place in an item and its place in the text are found from each other, and have the same order.
pub record PlacesTurn : Type 0 where
  pub seen : (base at : At) → relative base (absolute base at) ≡ at
  pub back : (base at : At) → IsNotAfter base at → absolute base (relative base at) ≡ at
  pub order : (base a b : At) → IsNotAfter base a → IsNotAfter base b → IsBefore a b → IsBefore (relative base a) (relative base b)
  pub text_order : (base a b : At) → IsBefore a b → IsBefore (absolute base a) (absolute base b)
