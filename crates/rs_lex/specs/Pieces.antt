-- What a text is made of: separators, comments and tokens.
use Rattle.std.specs.Prelude.{◌≡◌, ℕ, ◌==◌, ◌&&◌, ◌||◌, not, Bool, true, false, nat_eq, nat_le, List, [], ◌∷◌, ◌++◌, is_some, codes}
use Rattle.std.specs.Cmp.Lexicographic.{pointwise}
use Rattle.std.specs.List.{list_all, list_any, starts_with}
use Rattle.rs_tree.specs.Words.{begins, is_word_byte}
use Rattle.rs_tree.specs.Kinds.{kind_in, kind_of, signs}

-- the bytes that separate tokens
abbrev pub is_blank : ℕ → Bool
is_blank b = b == 9 || b == 10 || b == 13 || b == 32

-- a byte of a text, other than a line feed
abbrev pub is_comment_byte : ℕ → Bool
is_comment_byte b = b == 9 || b == 13 || (nat_le 32 b && nat_le b 126)

-- `//!`, and `///` that no fourth `/` follows
abbrev pub is_doc : List ℕ → Bool
is_doc text = starts_with nat_eq text (codes "//!") || (starts_with nat_eq text (codes "///") && not (starts_with nat_eq text (codes "////")))

-- a comment, which goes on up to the first byte that no comment has
pub record IsComment (text rest : List ℕ) : Type 0 where
  pub begun : starts_with nat_eq text (codes "//") ≡ true
  pub plain : is_doc text ≡ false
  pub each : list_all is_comment_byte text ≡ true
  pub whole : begins is_comment_byte rest ≡ false

-- letters, digits and `_`
abbrev pub is_run : List ℕ → Bool
is_run text = begins is_word_byte text && list_all is_word_byte text

-- what begins like a sign and is none
unfoldable pub refused : List (List ℕ)
refused = codes "<-" ∷ codes "//" ∷ codes "/*" ∷ []

-- a sign, the string, or what only begins like a sign
abbrev pub is_mark : List ℕ → Bool
is_mark text = is_some (kind_in signs text) || list_any (pointwise nat_eq text) refused

-- the forms among which the longest is sought
abbrev pub is_form : List ℕ → Bool
is_form text = is_run text || is_mark text

-- a token, which is the longest form at its place
pub record IsToken (text rest : List ℕ) : Type 0 where
  pub kind : is_some (kind_of text) ≡ true
  pub longest : (more after : List ℕ) → rest ≡ more ++ after → is_form (text ++ more) ≡ true → more ≡ []

pub data Piece : Type 0 where
  Blank : (byte : ℕ) → Piece
  Comment : (text : List ℕ) → Piece
  Token : (text : List ℕ) → Piece

abbrev pub spelling : Piece → List ℕ
spelling (Blank byte) = byte ∷ []
spelling (Comment text) = text
spelling (Token text) = text

-- the piece may stand before `rest`
abbrev pub Stands : Piece → List ℕ → Type 0
Stands (Blank byte) rest = is_blank byte ≡ true
Stands (Comment text) rest = IsComment text rest
Stands (Token text) rest = IsToken text rest
