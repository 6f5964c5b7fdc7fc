-- A text ends where no token has a place.
use Rattle.std.proofs.Common.{◌≡◌, List, [], ◌∷◌, None, refl}
use Rattle.rs_grammar.specs.Lexeme.{Lexeme, next_place}

pub at_end : (v : List Lexeme) → next_place v ≡ None → v ≡ []
at_end [] e = refl
at_end (t ∷ v) e = absurd cc
