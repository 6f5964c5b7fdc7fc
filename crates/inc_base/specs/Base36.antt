-- Numbers as texts in base 36.
use Rattle.std.specs.Prelude.{◌≡◌, ◌≢◌, ℕ, zero, suc, ◌/◌, ◌%◌, ◌<◌, ◌||◌, Bool, List, [], ◌∷◌, ◌++◌, map, length, slice_index}
use Rattle.std.specs.Char.{digit_char}
use Rattle.std.specs.Int.{is_in_range}
use Rattle.std.specs.Int.Digits.{digits_of}
use Rattle.std.specs.List.{AllPass}
use Rattle.std.specs.Str.Parse.{digits_value}

-- the digits are `0-9 a-z`
abbrev pub is_digit36 : ℕ → Bool
is_digit36 b = is_in_range 48 57 b || is_in_range 97 122 b

-- the number that digits write, the highest first: `0-9` are worth 0 to 9, and `a-z` 10 to 35
abbrev pub number36 : List ℕ → ℕ
number36 text = digits_value 36 text

-- the text of v: digits with that value, and no leading zero but in `0` itself
pub record Spells36 (text : List ℕ) (v : ℕ) : Type 0 where
  pub some : 0 < length text
  pub digits : AllPass is_digit36 text
  pub no_zero : 1 < length text → slice_index text 0 ≢ 48
  pub value : number36 text ≡ v

-- the wide text of v: exactly 25 digits with that value
pub record SpellsWide36 (text : List ℕ) (v : ℕ) : Type 0 where
  pub wide : length text ≡ 25
  pub digits : AllPass is_digit36 text
  pub value : number36 text ≡ v

-- the text of a number
unfoldable pub text36 : ℕ → List ℕ
text36 zero = 48 ∷ []
text36 (suc n) = map digit_char (digits_of 36 (suc n))

-- the last k digits of a number, zeros in front of it where it has fewer
unfoldable pub last_digits36 : ℕ → ℕ → List ℕ
last_digits36 zero v = []
last_digits36 (suc k) v = last_digits36 k (v / 36) ++ digit_char (v % 36) ∷ []

-- the wide text of a number below 36 ^ 25
unfoldable pub wide36 : ℕ → List ℕ
wide36 v = last_digits36 25 v
