-- Identifiers and numbers, by their bytes.
use Rattle.std.specs.Prelude.{ℕ, ◌+◌, ◌-◌, ◌*◌, ◌^◌, ◌==◌, ◌&&◌, ◌||◌, not, Bool, false, if◌then◌else◌, nat_eq, nat_le, nat_lt, List, [], ◌∷◌, length, codes}
use Rattle.std.specs.Char.{is_ascii_alphabetic, is_ascii_alphanumeric, is_ascii_digit}
use Rattle.std.specs.Cmp.Lexicographic.{pointwise}
use Rattle.std.specs.List.{list_all}

-- `A-Z a-z _`
abbrev pub is_letter : ℕ → Bool
is_letter b = is_ascii_alphabetic b || b == 95

-- `A-Z a-z 0-9 _`
abbrev pub is_word_byte : ℕ → Bool
is_word_byte b = is_ascii_alphanumeric b || b == 95

-- `0-9 _`
abbrev pub is_number_byte : ℕ → Bool
is_number_byte b = is_ascii_digit b || b == 95

-- whether there is a first byte, which passes
abbrev pub begins : (ℕ → Bool) → List ℕ → Bool
begins first [] = false
begins first (b ∷ bs) = first b

-- `[A-Za-z_][A-Za-z0-9_]*` of at most 64 bytes, other than `_` alone
abbrev pub is_identifier : List ℕ → Bool
is_identifier text = ((begins is_letter text && nat_le (length text) 64) && list_all is_word_byte text) && not (pointwise nat_eq text (codes "_"))

-- the number that digits spell after `before`; a `_` counts for nothing
abbrev pub value_after : ℕ → List ℕ → ℕ
value_after before [] = before
value_after before (b ∷ bs) = if b == 95 then value_after before bs else value_after (before * 10 + (b - 48)) bs

abbrev pub value_of : List ℕ → ℕ
value_of text = value_after 0 text

-- `[0-9][0-9_]*` whose value is below 2^63
abbrev pub is_number : List ℕ → Bool
is_number text = (begins is_ascii_digit text && list_all is_number_byte text) && nat_lt (value_of text) (2 ^ 63)
