-- The tokens of a text, and its first fault.
use Rattle.std.specs.Prelude.{◌≡◌, ◌≢◌, ℕ, List, [], ◌∷◌, ◌++◌}
use Rattle.rs_tree.specs.declared.place.At.{At}
use Rattle.rs_tree.specs.declared.token.Token.{Token}
use Rattle.rs_lex.specs.Pieces as p
use Rattle.rs_lex.specs.Pieces.{Piece, Stands, spelling}
use Rattle.rs_lex.specs.Places.{place_of}

-- the pieces' texts, one after the other
abbrev pub joined : List Piece → List ℕ
joined [] = []
joined (piece ∷ pieces) = spelling piece ++ joined pieces

-- each piece stands before those that follow it and `rest`
abbrev pub AllStand : List Piece → List ℕ → Type 0
AllStand [] rest = Unit {0}
AllStand (piece ∷ pieces) rest = Stands piece (joined pieces ++ rest) × AllStand pieces rest

-- the tokens among the pieces after `before`, each with its place
abbrev pub tokens_in : List ℕ → List Piece → List Token
tokens_in before [] = []
tokens_in before (p.Token text ∷ pieces) = record { at = place_of before; text = text } ∷ tokens_in (before ++ text) pieces
tokens_in before (p.Comment text ∷ pieces) = tokens_in (before ++ text) pieces
tokens_in before (p.Blank byte ∷ pieces) = tokens_in (before ++ byte ∷ []) pieces

-- tokens, separators and comments, joined, give the text, and each stands at its place
pub record IsTokens (text : List ℕ) (tokens : List Token) : Type 0 where
  pub pieces : List Piece
  pub joins : text ≡ joined pieces
  pub stand : AllStand pieces []
  pub gives : tokens ≡ tokens_in [] pieces

-- no token, separator or comment begins here
pub record IsStuck (rest : List ℕ) : Type 0 where
  pub some : rest ≢ []
  pub none : (piece : Piece) (after : List ℕ) → rest ≡ spelling piece ++ after → Stands piece after → ⊥

-- the place of the first byte at which nothing begins
pub record IsFirstFault (text : List ℕ) (at : At) : Type 0 where
  pub pieces : List Piece
  pub rest : List ℕ
  pub joins : text ≡ joined pieces ++ rest
  pub stand : AllStand pieces rest
  pub stuck : IsStuck rest
  pub place : at ≡ place_of (joined pieces)

-- the text has these tokens, no others, and no fault
pub record HasTokens (text : List ℕ) (tokens : List Token) : Type 0 where
  pub are : IsTokens text tokens
  pub only : (others : List Token) → IsTokens text others → others ≡ tokens
  pub faultless : (at : At) → IsFirstFault text at → ⊥

-- the text has this fault, no other, and no tokens
pub record HasFault (text : List ℕ) (at : At) : Type 0 where
  pub is : IsFirstFault text at
  pub only : (other : At) → IsFirstFault text other → other ≡ at
  pub tokenless : (tokens : List Token) → IsTokens text tokens → ⊥
