-- Each text is answered, in one way.
use Rattle.std.specs.Prelude.{◌≡◌, ◌⊎◌, ℕ, List}
use Rattle.rs_tree.specs.declared.place.At.{At}
use Rattle.rs_tree.specs.declared.token.Token.{Token}
use Rattle.rs_lex.specs.Tokens.{HasTokens, HasFault}

-- a text has tokens or a first fault
abbrev pub TextsAreAnswered : Type 0
TextsAreAnswered = (text : List ℕ) → ((tokens : List Token) × HasTokens text tokens) ⊎ ((at : At) × HasFault text at)

-- and not both, nor two of one
pub record OneAnswer : Type 0 where
  pub tokens : (text : List ℕ) (a b : List Token) → HasTokens text a → HasTokens text b → a ≡ b
  pub faultless : (text : List ℕ) (tokens : List Token) (at : At) → HasTokens text tokens → HasFault text at → ⊥
  pub fault : (text : List ℕ) (a b : At) → HasFault text a → HasFault text b → a ≡ b
