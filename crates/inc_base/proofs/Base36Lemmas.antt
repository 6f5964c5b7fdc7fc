-- How digits in base 36 are read and written, step by step.
use Rattle.std.proofs.Common.{◌≡◌, ◌≢◌, ℕ, zero, suc, ◌+◌, ◌*◌, ◌/◌, ◌%◌, ◌^◌, ◌<◌, ◌≤◌, true, List, [], ◌∷◌, ◌++◌, length, get_or, set, take, drop, refl, sym, ap, ◌∙◌, arith, lit≤, add-one, add-zero, append_assoc, length-drop}
use Rattle.std.proofs.lemmas.Int.Digits.{digits_value_more}
use Rattle.std.proofs.lemmas.List.{take-append-drop, drop-set, get_or-drop}
use Rattle.std.proofs.lemmas.List.Elements.{All-drop}
use Rattle.std.specs.Char.{digit_char, digit_value}
use Rattle.std.specs.Str.Parse.{digits_value_after}
use Rattle.inc_base.specs.Base36.{is_digit36, number36, last_digits36, Spells36}
use Rattle.inc_base.specs.Base36Laws.{IsLastDigits, last_digits36_spell}

-- a longer text means no less
value_after-ge : (n : ℕ) (text : List ℕ) → n ≤ digits_value_after 36 n text
value_after-ge n [] = omega arith
value_after-ge n (c ∷ text) = omega (arith, value_after-ge (n * 36 + digit_value c) text)

value_after-append : (n : ℕ) (front rest : List ℕ) → digits_value_after 36 n (front ++ rest) ≡ digits_value_after 36 (digits_value_after 36 n front) rest
value_after-append n [] rest = refl
value_after-append n (c ∷ front) rest = value_after-append (n * 36 + digit_value c) front rest

-- a front of a text means no more than the text
pub number36-take : (i : ℕ) (text : List ℕ) → number36 (take i text) ≤ number36 text
number36-take i text =
    omega (arith, ap number36 (sym (take-append-drop i text)), value_after-append 0 (take i text) (drop i text), value_after-ge (number36 (take i text)) (drop i text))

-- what a front with one digit more means
pub number36-more : (text : List ℕ) (i value digit : ℕ) → i < length text → number36 (take i text) ≡ value → digit_value (get_or text i 0) ≡ digit → number36 (take (i + 1) text) ≡ value * 36 + digit
number36-more text i value digit in' front last = digits_value_more 36 text i in' ∙ ap (λ v. v * 36 + digit_value (get_or text i 0)) front ∙ ap (λ d. value * 36 + d) last

-- zeros in front mean nothing
pub number36-drop : (i : ℕ) (text : List ℕ) → i ≤ length text → ((k : ℕ) → k < i → get_or text k 0 ≡ 48) → number36 (drop i text) ≡ number36 text
number36-drop zero text in' zeros = refl
number36-drop (suc i) [] in' zeros = refl
number36-drop (suc i) (c ∷ text) in' zeros =
    let first : c ≡ 48 = zeros 0 (omega arith) in
    number36-drop i text (omega (arith, in')) (λ k below. zeros (suc k) (omega arith)) ∙ ap (λ b. number36 (b ∷ text)) (sym first)

-- a digit that is written in front of those written before it
pub last_digits36_more : (k v : ℕ) (digits : List ℕ) (digit : ℕ) → k < length digits → digit ≡ digit_char (v % 36) → last_digits36 k (v / 36) ++ drop k (set digits k digit) ≡ last_digits36 (k + 1) v ++ drop (k + 1) digits
unfolding last_digits36
last_digits36_more k v digits digit in' is =
    let front = last_digits36 k (v / 36) in
    let seam : drop k (set digits k digit) ≡ digit ∷ drop (k + 1) digits = drop-set digits k digit in' in
    ap (λ t. front ++ t) (seam ∙ ap (λ d. d ∷ drop (k + 1) digits) is) ∙ sym (append_assoc front (digit_char (v % 36) ∷ []) (drop (k + 1) digits))
    ∙ ap (λ n. last_digits36 n v ++ drop (k + 1) digits) (sym (add-one k))

-- when all are written
pub last_digits36_all : (k v : ℕ) (digits : List ℕ) → k ≡ 0 → last_digits36 k v ++ drop k digits ≡ digits
unfolding last_digits36
last_digits36_all k v digits done = ap (λ n. last_digits36 n v ++ drop n digits) done

-- the text of a number is that of its last digits without the zeros in front
pub Spells36-from_last : (v i : ℕ) → v < 2 ^ 128 → i < 25 → ((k : ℕ) → k < i → get_or (last_digits36 25 v) k 0 ≡ 48) → (i + 1 < 25 → get_or (last_digits36 25 v) i 0 ≢ 48) → Spells36 (drop i (last_digits36 25 v)) v
Spells36-from_last v i small in' zeros first =
    let enough : 2 ^ 128 ≤ 36 ^ 25 = lit≤ tt in
    let text = last_digits36 25 v in
    let last : IsLastDigits text 25 v = last_digits36_spell 25 v (omega arith) in
    record {
      some = omega (arith, length-drop i text, last.width);
      digits = All-drop (λ b. is_digit36 b ≡ true) i text last.digits;
      no_zero = λ more. λ zero_is.
          first (omega (arith, more, length-drop i text, last.width)) (ap (λ k. get_or text k 0) (sym (add-zero i)) ∙ sym (get_or-drop i text 0 0) ∙ zero_is);
      value = number36-drop i text (omega (arith, last.width)) zeros ∙ last.value;
    }
