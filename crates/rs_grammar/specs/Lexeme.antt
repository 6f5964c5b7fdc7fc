-- Tokens as the grammar sees them.
use Rattle.std.specs.Prelude.{ℕ, ◌-◌, ◌==◌, if◌then◌else◌, List, [], ◌∷◌, map, Option, Some, None, unwrap_or}
use Rattle.rs_tree.specs.Kinds.{kind_of, same_kind}
use Rattle.rs_tree.specs.declared.kind.Kind.{Kind}
use Rattle.rs_tree.specs.declared.kind.Kind.TheVariants as k
use Rattle.rs_tree.specs.declared.place.At.{At}
use Rattle.rs_tree.specs.declared.token.Token.{Token}

-- a token with its kind
pub record Lexeme : Type 0 where
  pub kind : Kind
  pub at : At
  pub text : List ℕ

-- What is no token has a kind that no form takes.
abbrev pub kind_of_text : List ℕ → Kind
kind_of_text text = unwrap_or (kind_of text) k.Reserved

abbrev pub token_kinds : List Token → List Kind
token_kinds = map (λ t. kind_of_text t.text)

abbrev pub lexeme : Token → Lexeme
lexeme t = record { kind = kind_of_text t.text; at = t.at; text = t.text }

abbrev pub lexemes : List Token → List Lexeme
lexemes = map lexeme

-- A place relative to the first token of an item: the lines after its line, and the column, on that line
-- less the item's own.
abbrev pub relative : At → At → At
relative base at = record { line = at.line - base.line; column = if at.line == base.line then at.column - base.column else at.column }

abbrev pub moved : At → Lexeme → Lexeme
moved base t = record t { at = relative base t.at }

-- tokens as they are seen from a place
abbrev pub seen : At → List Lexeme → List Lexeme
seen base = map (moved base)

abbrev pub token : Lexeme → Token
token t = record { at = t.at; text = t.text }

-- what the next token is, and the one after it
abbrev pub next_kind : List Lexeme → Option Kind
next_kind [] = None
next_kind (t ∷ ts) = Some t.kind

abbrev pub second_kind : List Lexeme → Option Kind
second_kind [] = None
second_kind (t ∷ ts) = next_kind ts

-- where the next token begins
abbrev pub next_place : List Lexeme → Option At
next_place [] = None
next_place (t ∷ ts) = Some t.at

-- the place of the first token, and of the first name
abbrev pub nowhere : At
nowhere = record { line = 0; column = 0 }

abbrev pub start_of : List Lexeme → At
start_of [] = nowhere
start_of (t ∷ ts) = t.at

abbrev pub name_place : List Lexeme → At
name_place [] = nowhere
name_place (t ∷ ts) = if same_kind t.kind k.Name then t.at else name_place ts
