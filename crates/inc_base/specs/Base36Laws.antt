-- Each number has one text in base 36 and one wide text, and each text belongs to one number.
use Rattle.std.proofs.Common.{◌≡◌, ◌≢◌, ℕ, zero, suc, ◌+◌, ◌*◌, ◌/◌, ◌%◌, ◌^◌, ◌<◌, ◌≤◌, true, List, [], ◌∷◌, map, length, get_or, refl, sym, ap, ◌∙◌, ⊎_elim, arith, lit≤, length-append}
use Rattle.std.proofs.lemmas.Bool.{cases_lt}
use Rattle.std.proofs.lemmas.Bool.Decides.{nat_tests}
use Rattle.std.proofs.lemmas.Int.Digits.{digits_value_push, digits_value_is, digits_value-lt, number_digits_of, all_below_base_digits_of, first_digits_of}
use Rattle.std.proofs.lemmas.List.Elements.{All-head, All-tail, All-cons, All-nil, All-push}
use Rattle.std.proofs.lemmas.Str.{digit_value-digit_char}
use Rattle.std.proofs.Math.Nat.{div-add-mod', mod-lt, mul_assoc, pow-succ', pow-zero, mul-le-mul_right, pow-le-pow_right}
use Rattle.std.specs.Char.{digit_char, digit_value}
use Rattle.std.specs.Int.Digits.{digits_of, number_from_digits, AllBelowBase}
use Rattle.std.specs.List.{AllPass}
use Rattle.std.specs.Str.Parse.{AllDigits, digits_value_after}
use Rattle.inc_base.specs.Base36.{is_digit36, number36, text36, wide36, last_digits36, Spells36, SpellsWide36}

pub digit_value-lt : (b : ℕ) → is_digit36 b ≡ true → digit_value b < 36
digit_value-lt b is = grind (arith, nat_tests)

pub digit_char-digit_value : (b : ℕ) → is_digit36 b ≡ true → digit_char (digit_value b) ≡ b
digit_char-digit_value b is = grind (arith, nat_tests)

pub is_digit36-digit_char : (d : ℕ) → d < 36 → is_digit36 (digit_char d) ≡ true
is_digit36-digit_char d below = grind (arith, nat_tests)

AllDigits-from_pass : (text : List ℕ) → AllPass is_digit36 text → AllDigits 36 text
AllDigits-from_pass [] all = tt
AllDigits-from_pass (c ∷ text) all =
    let first = All-head (λ b. is_digit36 b ≡ true) c text all in
    (digit_value-lt c first, AllDigits-from_pass text (All-tail (λ b. is_digit36 b ≡ true) c text all))

-- k digits mean less than 36 ^ k
pub number36-lt : (text : List ℕ) → AllPass is_digit36 text → number36 text < 36 ^ length text
number36-lt text all = digits_value-lt 36 text (AllDigits-from_pass text all)

-- digits after those of n mean at least n with that many zeros
value_after-ge_pow : (n : ℕ) (text : List ℕ) → n * 36 ^ length text ≤ digits_value_after 36 n text
value_after-ge_pow n [] = omega (arith, ap (λ p. n * p) (pow-zero 36))
value_after-ge_pow n (c ∷ text) =
    let grown : n * 36 ≤ n * 36 + digit_value c = omega arith in
    omega (arith, value_after-ge_pow (n * 36 + digit_value c) text, mul-le-mul_right (36 ^ length text) grown, mul_assoc n 36 (36 ^ length text), ap (λ p. n * p) (pow-succ' 36 (length text)))

-- as many digits with the same value are the same digits
same_after : (m n : ℕ) (t u : List ℕ) → length t ≡ length u → AllPass is_digit36 t → AllPass is_digit36 u → digits_value_after 36 m t ≡ digits_value_after 36 n u → (m ≡ n) × (t ≡ u)
same_after m n [] [] len p q same = (same, refl)
same_after m n [] (d ∷ u) len p q same = absurd (omega (arith, len))
same_after m n (c ∷ t) [] len p q same = absurd (omega (arith, len))
same_after m n (c ∷ t) (d ∷ u) len p q same =
    let c_is = All-head (λ b. is_digit36 b ≡ true) c t p in
    let d_is = All-head (λ b. is_digit36 b ≡ true) d u q in
    let c_below = digit_value-lt c c_is in
    let d_below = digit_value-lt d d_is in
    let lens : length t ≡ length u = omega (arith, len) in
    let rest = same_after (m * 36 + digit_value c) (n * 36 + digit_value d) t u lens (All-tail (λ b. is_digit36 b ≡ true) c t p) (All-tail (λ b. is_digit36 b ≡ true) d u q) same in
    let fronts : m ≡ n = omega (arith, rest.0) in
    let values : digit_value c ≡ digit_value d = omega (arith, rest.0) in
    let firsts : c ≡ d = sym (digit_char-digit_value c c_is) ∙ ap digit_char values ∙ digit_char-digit_value d d_is in
    (fronts, ap (λ x. x ∷ t) firsts ∙ ap (λ x. d ∷ x) rest.1)

-- a first digit above 0 stands for its power
first_digit-pow : (c : ℕ) (text : List ℕ) → is_digit36 c ≡ true → c ≢ 48 → 36 ^ length text ≤ number36 (c ∷ text)
first_digit-pow c text is above =
    let value : 1 ≤ digit_value c = digit_value-pos c is above in
    let start : 0 * 36 + digit_value c ≡ digit_value c = omega arith in
    omega (arith, ap (λ n. digits_value_after 36 n text) start, value_after-ge_pow (digit_value c) text, mul-le-mul_right (36 ^ length text) value)
  where
    digit_value-pos : (b : ℕ) → is_digit36 b ≡ true → b ≢ 48 → 1 ≤ digit_value b
    digit_value-pos b is above = grind (arith, nat_tests)

-- of two numbers, the one with fewer digits is less
shorter_is_less : (t u : List ℕ) (v w : ℕ) → Spells36 t v → Spells36 u w → length t < length u → v < w
shorter_is_less t [] v w p q less = absurd (omega arith)
shorter_is_less t (c ∷ u) v w p q less =
    let is = All-head (λ b. is_digit36 b ≡ true) c u q.digits in
    let above : c ≢ 48 = q.no_zero (omega (arith, p.some)) in
    let powers : 36 ^ length t ≤ 36 ^ length u = pow-le-pow_right (omega arith) (omega arith) in
    omega (arith, number36-lt t p.digits, p.value, q.value, first_digit-pow c u is above, powers)

-- a text spells one number
pub same_number36 : {text : List ℕ} {v w : ℕ} → Spells36 text v → Spells36 text w → v ≡ w
same_number36 p q = sym p.value ∙ q.value

-- a number has one text
pub same_text36 : {t u : List ℕ} {v : ℕ} → Spells36 t v → Spells36 u v → t ≡ u
same_text36 {t} {u} {v} p q = ⊎_elim
    (λ less. absurd (omega (arith, shorter_is_less t u v v p q less)))
    (λ ge. ⊎_elim
    (λ less. absurd (omega (arith, shorter_is_less u t v v q p less)))
    (λ le. let lens : length t ≡ length u = omega arith in (same_after 0 0 t u lens p.digits q.digits (p.value ∙ sym q.value)).1)
    (cases_lt (length u) (length t)))
    (cases_lt (length t) (length u))

-- a wide text spells one number, and a number has one wide text
pub same_wide_number36 : {text : List ℕ} {v w : ℕ} → SpellsWide36 text v → SpellsWide36 text w → v ≡ w
same_wide_number36 p q = sym p.value ∙ q.value

pub same_wide_text36 : {t u : List ℕ} {v : ℕ} → SpellsWide36 t v → SpellsWide36 u v → t ≡ u
same_wide_text36 {t} {u} {v} p q = (same_after 0 0 t u (p.wide ∙ sym q.wide) p.digits q.digits (p.value ∙ sym q.value)).1

-- the digits of values below 36 have these values
values_back : (ds : List ℕ) → AllBelowBase 36 ds → map digit_value (map digit_char ds) ≡ ds
values_back [] below = refl
values_back (d ∷ ds) below =
    ap (λ x. x ∷ map digit_value (map digit_char ds)) (digit_value-digit_char d below.0) ∙ ap (λ x. d ∷ x) (values_back ds below.1)

pass_back : (ds : List ℕ) → AllBelowBase 36 ds → AllPass is_digit36 (map digit_char ds)
pass_back [] below = All-nil (λ b. is_digit36 b ≡ true)
pass_back (d ∷ ds) below =
    All-cons (λ b. is_digit36 b ≡ true) (digit_char d) (map digit_char ds) (is_digit36-digit_char d below.0) (pass_back ds below.1)

first_back : (ds : List ℕ) → AllBelowBase 36 ds → 0 < get_or ds 0 0 → (0 < length (map digit_char ds)) × (get_or (map digit_char ds) 0 0 ≢ 48)
first_back [] below above = absurd (omega (arith, above))
first_back (d ∷ ds) below above = (omega arith, digit_char-above d below.0 above)
  where
    digit_char-above : (d : ℕ) → d < 36 → 0 < d → digit_char d ≢ 48
    digit_char-above d below above = grind (arith, nat_tests)

-- the text of a number spells it
pub text36_spells : (v : ℕ) → Spells36 (text36 v) v
unfolding text36
text36_spells zero = record {
  some = omega arith;
  digits = All-cons (λ b. is_digit36 b ≡ true) 48 [] refl (All-nil (λ b. is_digit36 b ≡ true));
  no_zero = λ more. absurd (omega (arith, more));
  value = refl;
}
text36_spells (suc n) =
    let ds = digits_of 36 (suc n) in
    let below = all_below_base_digits_of 36 (suc n) (omega arith) in
    let first = first_back ds below (first_digits_of 36 (suc n) (omega arith) (omega arith)) in
    record {
      some = first.0;
      digits = pass_back ds below;
      no_zero = λ _. first.1;
      value = digits_value_is 36 (map digit_char ds) ∙ ap (number_from_digits 36) (values_back ds below) ∙ number_digits_of 36 (suc n) (omega arith);
    }

-- the last k digits of a number below 36 ^ k spell it
pub record IsLastDigits (text : List ℕ) (k v : ℕ) : Type 0 where
  pub width : length text ≡ k
  pub digits : AllPass is_digit36 text
  pub value : number36 text ≡ v

pub last_digits36_spell : (k v : ℕ) → v < 36 ^ k → IsLastDigits (last_digits36 k v) k v
unfolding last_digits36
last_digits36_spell zero v small = record {
  width = refl;
  digits = All-nil (λ b. is_digit36 b ≡ true);
  value = omega (arith, small, pow-zero 36);
}
last_digits36_spell (suc k) v small =
    let last = mod-lt v {m = 36} (omega arith) in
    let parts = div-add-mod' v 36 in
    let front_small : v / 36 < 36 ^ k = omega (arith, parts, pow-succ' 36 k) in
    let front = last_digits36_spell k (v / 36) front_small in
    record {
      width = omega (arith, length-append (last_digits36 k (v / 36)) (digit_char (v % 36) ∷ []), front.width);
      digits = All-push (λ b. is_digit36 b ≡ true) (last_digits36 k (v / 36)) (digit_char (v % 36)) front.digits (is_digit36-digit_char (v % 36) last);
      value = digits_value_push 36 (last_digits36 k (v / 36)) (digit_char (v % 36))
          ∙ ap (λ x. x * 36 + digit_value (digit_char (v % 36))) front.value
          ∙ ap (λ x. v / 36 * 36 + x) (digit_value-digit_char (v % 36) last)
          ∙ parts;
    }

pub length-last_digits36 : (k v : ℕ) → length (last_digits36 k v) ≡ k
unfolding last_digits36
length-last_digits36 zero v = refl
length-last_digits36 (suc k) v =
    omega (arith, length-append (last_digits36 k (v / 36)) (digit_char (v % 36) ∷ []), length-last_digits36 k (v / 36))

-- 25 digits are enough for each number below 2 ^ 128
pub last_digits36_wide : (v : ℕ) → v < 2 ^ 128 → SpellsWide36 (last_digits36 25 v) v
last_digits36_wide v small =
    let enough : 2 ^ 128 ≤ 36 ^ 25 = lit≤ tt in
    let spelled = last_digits36_spell 25 v (omega arith) in
    record { wide = spelled.width; digits = spelled.digits; value = spelled.value }

-- the wide text of a number spells it
pub wide36_spells : (v : ℕ) → v < 2 ^ 128 → SpellsWide36 (wide36 v) v
unfolding wide36
wide36_spells v small = last_digits36_wide v small
