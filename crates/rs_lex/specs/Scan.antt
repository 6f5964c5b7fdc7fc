-- A plain program that finds what stands at the beginning of a text.
use Rattle.std.specs.Prelude.{ℕ, ◌&&◌, not, max, Bool, nat_eq, nat_le, List, [], ◌∷◌, take, length, Option, Some, None, if◌then◌else◌, is_some, codes, zero, suc}
use Rattle.std.specs.List.{prefix_len, starts_with, take_while}
use Rattle.rs_tree.specs.Kinds.{kind_of}
use Rattle.rs_tree.specs.Words.{is_word_byte}
use Rattle.rs_lex.specs.Pieces.{Piece, Blank, Comment, Token, is_blank, is_comment_byte, is_doc, is_mark}

-- the length of the longest front that passes, of those of at most `most` bytes
unfoldable pub longest_front : (List ℕ → Bool) → ℕ → List ℕ → ℕ
longest_front test zero rest = 0
longest_front test (suc most) rest = if nat_le (suc most) (length rest) && test (take (suc most) rest) then suc most else longest_front test most rest

-- the longest form
abbrev pub form_length : List ℕ → ℕ
form_length rest = max (prefix_len is_word_byte rest) (longest_front is_mark 4 rest)

abbrev pub is_comment : List ℕ → Bool
is_comment text = starts_with nat_eq text (codes "//") && not (is_doc text)

-- the length of the comment, or 0 where none begins
abbrev pub comment_length : List ℕ → ℕ
comment_length rest = if is_comment (take_while is_comment_byte rest) then prefix_len is_comment_byte rest else 0

abbrev pub token_at : List ℕ → Option Piece
token_at rest = if is_some (kind_of (take (form_length rest) rest)) then Some (Token (take (form_length rest) rest)) else None

abbrev pub word_at : List ℕ → Option Piece
word_at rest = if is_comment (take_while is_comment_byte rest) then Some (Comment (take_while is_comment_byte rest)) else token_at rest

abbrev pub piece_at : List ℕ → Option Piece
piece_at [] = None
piece_at (b ∷ bs) = if is_blank b then Some (Blank b) else word_at (b ∷ bs)
