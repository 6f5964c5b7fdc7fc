-- What the scanner keeps of a piece.
use Rattle.std.specs.Prelude.{ℕ, Bool, true, false, List, [], ◌∷◌, length}
use Rattle.rs_tree.specs.declared.place.At.{At}
use Rattle.rs_tree.specs.declared.token.Token.{Token}
use Rattle.rs_lex.specs.declared.step.Step.{Step}
use Rattle.rs_lex.specs.Pieces as p
use Rattle.rs_lex.specs.Pieces.{Piece}

-- how long it is, and whether it is a token
abbrev pub measured : Piece → Step
measured (p.Blank byte) = record { length = 1; token = false }
measured (p.Comment text) = record { length = length text; token = false }
measured (p.Token text) = record { length = length text; token = true }

-- the tokens that a piece adds
abbrev pub added : Bool → At → List ℕ → List Token
added true at text = record { at = at; text = text } ∷ []
added false at text = []
