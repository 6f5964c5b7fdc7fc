-- What a token is, by its text.
use Rattle.std.specs.Prelude.{ℕ, ◌==◌, Bool, if◌then◌else◌, nat_eq, List, [], ◌∷◌, length, filter, Option, Some, unwrap_or, codes}
use Rattle.std.specs.Cmp.{IsEquivalence, nat_eq_equiv, on_equiv}
use Rattle.std.specs.Cmp.Lexicographic.{pointwise}
use Rattle.std.specs.Map.{lookup}
use Rattle.rs_tree.specs.Words.{is_identifier, is_number}
use Rattle.rs_tree.specs.declared.kind.Kind.{Kind}
use Rattle.rs_tree.specs.declared.kind.Kind.TheVariants as k

-- the keywords, each with what it is
unfoldable pub keywords : List (List ℕ × Kind)
keywords =
    (codes "as", k.Reserved) ∷ (codes "abstract", k.Reserved) ∷ (codes "async", k.Reserved) ∷
    (codes "await", k.Reserved) ∷ (codes "become", k.Reserved) ∷ (codes "bool", k.Bool) ∷
    (codes "box", k.Reserved) ∷ (codes "break", k.Reserved) ∷ (codes "const", k.Const) ∷
    (codes "continue", k.Reserved) ∷ (codes "crate", k.Crate) ∷ (codes "do", k.Reserved) ∷
    (codes "dyn", k.Reserved) ∷ (codes "else", k.Else) ∷ (codes "enum", k.Reserved) ∷
    (codes "extern", k.Reserved) ∷ (codes "false", k.False) ∷ (codes "final", k.Reserved) ∷
    (codes "fn", k.Fn) ∷ (codes "for", k.Reserved) ∷ (codes "gen", k.Reserved) ∷
    (codes "i64", k.Int) ∷ (codes "if", k.If) ∷ (codes "impl", k.Reserved) ∷
    (codes "in", k.Reserved) ∷ (codes "inline", k.Inline) ∷ (codes "let", k.Let) ∷
    (codes "loop", k.Reserved) ∷ (codes "macro", k.Reserved) ∷ (codes "match", k.Reserved) ∷
    (codes "mod", k.Mod) ∷ (codes "move", k.Reserved) ∷ (codes "mut", k.Mut) ∷
    (codes "override", k.Reserved) ∷ (codes "priv", k.Reserved) ∷ (codes "println", k.Println) ∷
    (codes "pub", k.Pub) ∷ (codes "ref", k.Reserved) ∷ (codes "return", k.Return) ∷
    (codes "self", k.Reserved) ∷ (codes "Self", k.Reserved) ∷ (codes "static", k.Reserved) ∷
    (codes "struct", k.Reserved) ∷ (codes "super", k.Reserved) ∷ (codes "trait", k.Reserved) ∷
    (codes "true", k.True) ∷ (codes "try", k.Reserved) ∷ (codes "type", k.Reserved) ∷
    (codes "typeof", k.Reserved) ∷ (codes "unsafe", k.Reserved) ∷ (codes "unsized", k.Reserved) ∷
    (codes "use", k.Reserved) ∷ (codes "virtual", k.Reserved) ∷ (codes "where", k.Reserved) ∷
    (codes "while", k.While) ∷ (codes "yield", k.Reserved) ∷ []

-- the signs, and the one string
unfoldable pub signs : List (List ℕ × Kind)
signs =
    (codes "(", k.LeftParen) ∷ (codes ")", k.RightParen) ∷ (codes "{", k.LeftBrace) ∷
    (codes "}", k.RightBrace) ∷ (codes "[", k.LeftBracket) ∷ (codes "]", k.RightBracket) ∷
    (codes "#", k.Hash) ∷ (codes ";", k.Semicolon) ∷ (codes ",", k.Comma) ∷ (codes ":", k.Colon) ∷
    (codes "::", k.DoubleColon) ∷ (codes "->", k.Arrow) ∷ (codes "=", k.Assign) ∷
    (codes "==", k.Equal) ∷ (codes "!=", k.NotEqual) ∷ (codes "<", k.Less) ∷ (codes ">", k.Greater) ∷
    (codes "<=", k.AtMost) ∷ (codes ">=", k.AtLeast) ∷ (codes "+", k.Plus) ∷ (codes "-", k.Minus) ∷
    (codes "*", k.Star) ∷ (codes "/", k.Slash) ∷ (codes "%", k.Percent) ∷ (codes "!", k.Not) ∷
    (codes "&&", k.And) ∷ (codes "||", k.Or) ∷ (codes "\"{}\"", k.Text) ∷ []

-- what a table says of a text
abbrev pub kind_in : List (List ℕ × Kind) → List ℕ → Option Kind
kind_in rows text = lookup (pointwise nat_eq text) rows

-- the rows of a table whose text has this length
abbrev pub of_length : ℕ → List (List ℕ × Kind) → List (List ℕ × Kind)
of_length n rows = filter (λ r. length r.0 == n) rows

-- A token's kind: an identifier is a keyword or a name, and what is neither identifier nor number is a
-- sign or the string. No other text is a token.
unfoldable pub kind_of : List ℕ → Option Kind
kind_of text =
    if is_identifier text then Some (unwrap_or (kind_in keywords text) k.Name)
    else if is_number text then Some k.Number
    else kind_in signs text

-- a number for each kind, so that two kinds are the same where their numbers are
unfoldable pub code : Kind → ℕ
code k.Name = 0
code k.Number = 1
code k.Text = 2
code k.Reserved = 3
code k.Bool = 4
code k.Const = 5
code k.Crate = 6
code k.Else = 7
code k.False = 8
code k.Fn = 9
code k.Int = 10
code k.If = 11
code k.Inline = 12
code k.Let = 13
code k.Mod = 14
code k.Mut = 15
code k.Println = 16
code k.Pub = 17
code k.Return = 18
code k.True = 19
code k.While = 20
code k.LeftParen = 21
code k.RightParen = 22
code k.LeftBrace = 23
code k.RightBrace = 24
code k.LeftBracket = 25
code k.RightBracket = 26
code k.Hash = 27
code k.Semicolon = 28
code k.Comma = 29
code k.Colon = 30
code k.DoubleColon = 31
code k.Arrow = 32
code k.Assign = 33
code k.Equal = 34
code k.NotEqual = 35
code k.Less = 36
code k.Greater = 37
code k.AtMost = 38
code k.AtLeast = 39
code k.Plus = 40
code k.Minus = 41
code k.Star = 42
code k.Slash = 43
code k.Percent = 44
code k.Not = 45
code k.And = 46
code k.Or = 47

abbrev pub same_kind : Kind → Kind → Bool
same_kind a b = nat_eq (code a) (code b)

pub same_kind_equiv : IsEquivalence same_kind
same_kind_equiv = on_equiv code nat_eq_equiv
