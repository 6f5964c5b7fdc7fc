-- The longest form at the beginning of a text.
use Rattle.std.proofs.Common.{◌≡◌, ℕ, zero, suc, ◌<◌, ◌≤◌, ◌==◌, ◌&&◌, ◌||◌, not, Bool, true, false, List, [], ◌∷◌, ◌++◌, length, take, max, ◌⊎◌, inl, inr, subst, ◌^◌, refl, sym, ap, ◌∙◌, nat_eq, nat_le, nat_lt, arith}
use Rattle.std.specs.Prelude.{is_some}
use Rattle.std.specs.Int.{is_in_range}
use Rattle.std.specs.Char.{is_ascii_digit}
use Rattle.std.specs.Cmp.Lexicographic.{pointwise, same_text}
use Rattle.std.specs.List.{list_all, list_any, prefix_len}
use Rattle.std.specs.Map.{keys_of}
use Rattle.std.proofs.lemmas.Map.Made.{is_some-lookup}
use Rattle.std.proofs.lemmas.List.Sums.{prefix_len-le-length}
use Rattle.std.proofs.lemmas.Bool.Decides.{nat_tests}
use Rattle.rs_tree.proofs.Both.{left_of, right_of}
use Rattle.rs_tree.specs.Words.{begins, is_identifier, is_letter, is_number, is_number_byte, is_word_byte, value_of}
use Rattle.rs_tree.specs.Kinds.{kind_in, kind_of, signs}
use Rattle.rs_lex.specs.Pieces.{is_blank, is_form, is_mark, is_run, refused}
use Rattle.rs_lex.specs.Ranges.{is_byte}
use Rattle.rs_lex.specs.Scan.{form_length, longest_front}
use Rattle.rs_lex.proofs.Fronts.{IsFrontFound, longest_front-found, longest_front-ge, prefix_len-ge, prefix_passes, take_front, front_within}

-- tests

or_left : (a b : Bool) → a ≡ true → (a || b) ≡ true
or_left a b h = rw h refl

or_right : (a b : Bool) → b ≡ true → (a || b) ≡ true
or_right true b h = refl
or_right false b h = h

or_cases : (a b : Bool) → (a || b) ≡ true → (a ≡ true) ⊎ (b ≡ true)
or_cases true b h = inl refl
or_cases false b h = inr h

-- a token is a form

is_run_of : (first : ℕ → Bool) (text : List ℕ) → begins first text ≡ true → list_all is_word_byte text ≡ true → is_run text ≡ true
is_run_of first [] some all = cc
is_run_of first (b ∷ bs) some all = rw (left_of (is_word_byte b) (list_all is_word_byte bs) all) (right_of (is_word_byte b) (list_all is_word_byte bs) all)

number_is_word : (digit upper lower blank : Bool) → (digit || blank) ≡ true → (((digit || upper) || lower) || blank) ≡ true
number_is_word true upper lower blank h = refl
number_is_word false true lower blank h = refl
number_is_word false false true blank h = refl
number_is_word false false false blank h = h

numbers_are_words : (text : List ℕ) → list_all is_number_byte text ≡ true → list_all is_word_byte text ≡ true
numbers_are_words [] all = refl
numbers_are_words (b ∷ bs) all =
    let first : is_word_byte b ≡ true = number_is_word (is_ascii_digit b) (is_in_range 65 90 b) (is_in_range 97 122 b) (b == 95) (left_of (is_number_byte b) (list_all is_number_byte bs) all) in
    let later = numbers_are_words bs (right_of (is_number_byte b) (list_all is_number_byte bs) all) in
    rw first later

identifier_is_run : (text : List ℕ) → is_identifier text ≡ true → is_run text ≡ true
identifier_is_run text is =
    let shaped = left_of ((begins is_letter text && nat_le (length text) 64) && list_all is_word_byte text) (not (pointwise nat_eq text (95 ∷ []))) is in
    let begun = left_of (begins is_letter text && nat_le (length text) 64) (list_all is_word_byte text) shaped in
    is_run_of is_letter text (left_of (begins is_letter text) (nat_le (length text) 64) begun) (right_of (begins is_letter text && nat_le (length text) 64) (list_all is_word_byte text) shaped)

number_is_run : (text : List ℕ) → is_number text ≡ true → is_run text ≡ true
number_is_run text is =
    let shaped = left_of (begins is_ascii_digit text && list_all is_number_byte text) (nat_lt (value_of text) (2 ^ 63)) is in
    is_run_of is_ascii_digit text (left_of (begins is_ascii_digit text) (list_all is_number_byte text) shaped) (numbers_are_words text (right_of (begins is_ascii_digit text) (list_all is_number_byte text) shaped))

token_cases : (text : List ℕ) (identifier number : Bool) → is_identifier text ≡ identifier → is_number text ≡ number → is_some (kind_of text) ≡ true → is_form text ≡ true
unfolding kind_of
token_cases text true number i n some = or_left (is_run text) (is_mark text) (identifier_is_run text i)
token_cases text false true i n some = or_left (is_run text) (is_mark text) (number_is_run text n)
token_cases text false false i n some =
    or_right (is_run text) (is_mark text) (or_left (is_some (kind_in signs text)) (list_any (pointwise nat_eq text) refused) (rw (i, n) at some))

pub token_is_form : (text : List ℕ) → is_some (kind_of text) ≡ true → is_form text ≡ true
token_is_form text some = token_cases text _ _ refl refl some

-- what is no token

pub nothing_is_no_token : is_some (kind_of []) ≡ false
unfolding kind_of signs
nothing_is_no_token = refl

pub slashes_are_no_token : (bs : List ℕ) → is_some (kind_of (47 ∷ 47 ∷ bs)) ≡ false
unfolding kind_of signs
slashes_are_no_token bs = refl

pub slashes_are_a_form : is_form (47 ∷ 47 ∷ []) ≡ true
unfolding signs refused
slashes_are_a_form = refl

blank_at : (b byte : ℕ) (bs : List ℕ) → (b == byte) ≡ true → is_some (kind_of (byte ∷ bs)) ≡ false → is_some (kind_of (b ∷ bs)) ≡ false
blank_at b byte bs is none = let same : b ≡ byte = grind (arith, nat_tests) in rw same none

no_token_at_9 : (bs : List ℕ) → is_some (kind_of (9 ∷ bs)) ≡ false
unfolding kind_of signs
no_token_at_9 bs = refl

no_token_at_10 : (bs : List ℕ) → is_some (kind_of (10 ∷ bs)) ≡ false
unfolding kind_of signs
no_token_at_10 bs = refl

no_token_at_13 : (bs : List ℕ) → is_some (kind_of (13 ∷ bs)) ≡ false
unfolding kind_of signs
no_token_at_13 bs = refl

no_token_at_32 : (bs : List ℕ) → is_some (kind_of (32 ∷ bs)) ≡ false
unfolding kind_of signs
no_token_at_32 bs = refl

pub blank_is_no_token : (b : ℕ) (bs : List ℕ) → is_blank b ≡ true → is_some (kind_of (b ∷ bs)) ≡ false
blank_is_no_token b bs is = elim (or_cases (b == 9 || b == 10 || b == 13) (b == 32) is) [
  | inr e ↦ blank_at b 32 bs e (no_token_at_32 bs)
  | inl h ↦ elim (or_cases (b == 9 || b == 10) (b == 13) h) [
    | inr e ↦ blank_at b 13 bs e (no_token_at_13 bs)
    | inl g ↦ elim (or_cases (b == 9) (b == 10) g) [
      | inr e ↦ blank_at b 10 bs e (no_token_at_10 bs)
      | inl e ↦ blank_at b 9 bs e (no_token_at_9 bs)
    ]
  ]
]

-- marks are short

row_step : (test : List ℕ → Bool) (text row : List ℕ) (rows : List (List ℕ)) (same : Bool) → pointwise nat_eq text row ≡ same → test row ≡ true → (list_any (pointwise nat_eq text) rows ≡ true → test text ≡ true) →
    (same || list_any (pointwise nat_eq text) rows) ≡ true → test text ≡ true
row_step test text row rows true is passes more any = ap test (same_text text row (sym is)) ∙ passes
row_step test text row rows false is passes more any = more any

-- what all rows of a table pass
row_passes : (test : List ℕ → Bool) (text : List ℕ) (rows : List (List ℕ)) → list_all test rows ≡ true → list_any (pointwise nat_eq text) rows ≡ true → test text ≡ true
row_passes test text [] all any = cc
row_passes test text (row ∷ rows) all any =
    row_step test text row rows _ refl (left_of (test row) (list_all test rows) all) (row_passes test text rows (right_of (test row) (list_all test rows) all)) any

mark_passes : (test : List ℕ → Bool) (text : List ℕ) → list_all test (keys_of signs) ≡ true → list_all test refused ≡ true → is_mark text ≡ true → test text ≡ true
mark_passes test text all others is = elim (or_cases (is_some (kind_in signs text)) (list_any (pointwise nat_eq text) refused) is) [
  | inl h ↦ row_passes test text (keys_of signs) all (sym (is_some-lookup (pointwise nat_eq text) signs) ∙ h)
  | inr h ↦ row_passes test text refused others h
]

is_short : List ℕ → Bool
is_short text = nat_le (length text) 4

signs_are_short : list_all is_short (keys_of signs) ≡ true
unfolding is_short signs
signs_are_short = refl

refused_are_short : list_all is_short refused ≡ true
unfolding is_short refused
refused_are_short = refl

mark_is_short : (text : List ℕ) → is_mark text ≡ true → length text ≤ 4
unfolding is_short
mark_is_short text is = let short : nat_le (length text) 4 ≡ true = mark_passes is_short text signs_are_short refused_are_short is in grind (arith, nat_tests)

-- where a word begins, no mark does

begins_no_word : List ℕ → Bool
begins_no_word text = not (begins is_word_byte text)

signs_begin_no_word : list_all begins_no_word (keys_of signs) ≡ true
unfolding begins_no_word signs
signs_begin_no_word = refl

refused_begin_no_word : list_all begins_no_word refused ≡ true
unfolding begins_no_word refused
refused_begin_no_word = refl

unmarked : (b : ℕ) (text : List ℕ) (word : Bool) → is_word_byte b ≡ word → 0 < prefix_len is_word_byte (b ∷ text) → (n : ℕ) → (0 < n → is_mark (take n (b ∷ text)) ≡ true) → n ≡ 0
unfolding begins_no_word
unmarked b text false e some n passes = absurd (let none : prefix_len is_word_byte (b ∷ text) ≡ 0 = rw e refl in omega (arith, some, none))
unmarked b text true e some zero passes = refl
unmarked b text true e some (suc n) passes =
    let no : not (is_word_byte b) ≡ true = mark_passes begins_no_word (take (suc n) (b ∷ text)) signs_begin_no_word refused_begin_no_word (passes (omega arith)) in
    absurd (let is : not true ≡ true = sym (ap not e) ∙ no in cc)

pub word_or_mark : (rest : List ℕ) → 0 < prefix_len is_word_byte rest → form_length rest ≡ prefix_len is_word_byte rest
word_or_mark [] some = absurd (omega (arith, some))
word_or_mark (b ∷ text) some =
    let none = unmarked b text _ refl some (longest_front is_mark 4 (b ∷ text)) (longest_front-found is_mark 4 (b ∷ text)).passes in
    ap (max (prefix_len is_word_byte (b ∷ text))) none ∙ omega arith

-- a token's bytes are bytes

signs_are_bytes : list_all (list_all is_byte) (keys_of signs) ≡ true
unfolding signs
signs_are_bytes = refl

refused_are_bytes : list_all (list_all is_byte) refused ≡ true
unfolding refused
refused_are_bytes = refl

up_to : (a b n : ℕ) → n < 256 → is_in_range a n b ≡ true → is_byte b ≡ true
up_to a b n small is = let most : nat_le b n ≡ true = right_of (nat_le a b) (nat_le b n) is in grind (arith, nat_tests)

word_is_byte : (b : ℕ) → is_word_byte b ≡ true → is_byte b ≡ true
word_is_byte b is = elim (or_cases ((is_ascii_digit b || is_in_range 65 90 b) || is_in_range 97 122 b) (b == 95) is) [
  | inr h ↦ grind (arith, nat_tests)
  | inl h ↦ elim (or_cases (is_ascii_digit b || is_in_range 65 90 b) (is_in_range 97 122 b) h) [
    | inr g ↦ up_to 97 b 122 (omega arith) g
    | inl g ↦ elim (or_cases (is_ascii_digit b) (is_in_range 65 90 b) g) [
      | inr f ↦ up_to 65 b 90 (omega arith) f
      | inl f ↦ up_to 48 b 57 (omega arith) f
    ]
  ]
]

words_are_bytes : (text : List ℕ) → list_all is_word_byte text ≡ true → list_all is_byte text ≡ true
words_are_bytes [] all = refl
words_are_bytes (b ∷ bs) all =
    let first = word_is_byte b (left_of (is_word_byte b) (list_all is_word_byte bs) all) in
    let later = words_are_bytes bs (right_of (is_word_byte b) (list_all is_word_byte bs) all) in
    rw first later

pub token_bytes : (text : List ℕ) → is_some (kind_of text) ≡ true → list_all is_byte text ≡ true
token_bytes text some = elim (or_cases (is_run text) (is_mark text) (token_is_form text some)) [
  | inl run ↦ words_are_bytes text (right_of (begins is_word_byte text) (list_all is_word_byte text) run)
  | inr mark ↦ mark_passes (list_all is_byte) text signs_are_bytes refused_are_bytes mark
]

-- the longest form

pub form_length-ge : (text rest after : List ℕ) → rest ≡ text ++ after → is_form text ≡ true → length text ≤ form_length rest
form_length-ge text rest after is form = elim (or_cases (is_run text) (is_mark text) form) [
  | inl run ↦
      let longer = prefix_len-ge is_word_byte text after (right_of (begins is_word_byte text) (list_all is_word_byte text) run) in
      rw is (omega (arith, longer))
  | inr mark ↦
      let front : is_mark (take (length text) rest) ≡ true = ap is_mark (take_front rest text after is) ∙ mark in
      let longer = longest_front-ge is_mark 4 (length text) rest (mark_is_short text mark) (front_within rest text after is) front in
      omega (arith, longer)
]

max_cases : (a b : ℕ) (le : Bool) → nat_le a b ≡ le → (max a b ≡ b) ⊎ (max a b ≡ a)
max_cases a b true h = inl (grind (arith, nat_tests))
max_cases a b false h = inr (grind (arith, nat_tests))

run_found : (rest : List ℕ) → IsFrontFound is_form (prefix_len is_word_byte rest) rest
run_found rest = record {
  within = prefix_len-le-length is_word_byte rest;
  passes = λ some. or_left _ _ (run_passes rest some);
} where
  nonempty : (n : ℕ) (bs : List ℕ) → 0 < n → n ≤ length bs → begins (λ b. true) (take n bs) ≡ true
  nonempty zero bs some within = absurd (omega arith)
  nonempty (suc n) [] some within = absurd (omega arith)
  nonempty (suc n) (b ∷ bs) some within = refl

  run_passes : (bs : List ℕ) → 0 < prefix_len is_word_byte bs → is_run (take (prefix_len is_word_byte bs) bs) ≡ true
  run_passes bs some = is_run_of (λ b. true) (take (prefix_len is_word_byte bs) bs) (nonempty (prefix_len is_word_byte bs) bs some (prefix_len-le-length is_word_byte bs)) (prefix_passes is_word_byte bs)

mark_found : (rest : List ℕ) → IsFrontFound is_form (longest_front is_mark 4 rest) rest
mark_found rest = let found = longest_front-found is_mark 4 rest in record {
  within = found.within;
  passes = λ some. or_right (is_run (take (longest_front is_mark 4 rest) rest)) _ (found.passes some);
}

pub form_found : (rest : List ℕ) → IsFrontFound is_form (form_length rest) rest
form_found rest = elim (max_cases (prefix_len is_word_byte rest) (longest_front is_mark 4 rest) _ refl) [
  | inl e ↦ subst (λ n. IsFrontFound is_form n rest) (sym e) (mark_found rest)
  | inr e ↦ subst (λ n. IsFrontFound is_form n rest) (sym e) (run_found rest)
]
