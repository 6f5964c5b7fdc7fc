-- The tokens of a text are in the ranges of their types.
use Rattle.std.specs.Prelude.{◌≡◌, ℕ, ◌^◌, ◌<◌, Bool, true, nat_lt, List, [], ◌∷◌, length}
use Rattle.std.specs.List.{list_all}
use Rattle.rs_tree.specs.declared.token.Token.{Token}

abbrev pub is_byte : ℕ → Bool
is_byte b = nat_lt b 256

pub record IsInRange (token : Token) : Type 0 where
  pub line : token.at.line < 2 ^ 32
  pub column : token.at.column < 2 ^ 32
  pub text : length token.text < 2 ^ 32
  pub bytes : list_all is_byte token.text ≡ true

abbrev pub EachInRange : List Token → Type 0
EachInRange [] = Unit {0}
EachInRange (token ∷ tokens) = IsInRange token × EachInRange tokens

-- fewer than a list may hold, each in its range
pub record AreInRange (tokens : List Token) : Type 0 where
  pub few : length tokens < 2 ^ 32
  pub each : EachInRange tokens
