-- Texts of different entries differ, and each is a label.
use Rattle.std.proofs.Common.{◌≡◌, ◌≢◌, ℕ, zero, suc, ◌+◌, ◌^◌, ◌<◌, ◌≤◌, true, false, List, [], ◌∷◌, ◌++◌, map, length, get_or, refl, sym, ap, ◌∙◌, subst, arith, lit≤, append_assoc, length-append, codes}
use Rattle.std.proofs.lemmas.Int.Digits.{length-digits_of-le}
use Rattle.std.proofs.lemmas.Bool.{false≢true}
use Rattle.std.proofs.lemmas.Bool.Decides.{nat_tests}
use Rattle.std.proofs.lemmas.List.{length-map, append_cancel_left}
use Rattle.std.proofs.lemmas.List.Elements.{All-head, All-tail, All-append, All-weaker}
use Rattle.std.proofs.lemmas.List.Sums.{AllPass-from_list_all}
use Rattle.std.specs.Char.{digit_char}
use Rattle.std.specs.Int.Digits.{digits_of}
use Rattle.std.specs.List.{AllPass}
use Rattle.inc_base.specs.Base36.{is_digit36, text36, wide36, Spells36, SpellsWide36}
use Rattle.inc_base.specs.Base36Laws.{text36_spells, wide36_spells, same_number36, same_wide_number36, length-last_digits36}
use Rattle.inc_base.specs.Texts.{IsLabel, is_label_byte}
use Rattle.inc_names.specs.declared.entry.Entry.{Entry}
use Rattle.inc_names.specs.declared.entry.Entry.TheVariants.{Lock, Working, Final}
use Rattle.inc_names.specs.declared.session.SessionName.{SessionName}
use Rattle.inc_names.specs.Entries.{stem_text, lock_text, working_text, final_text, entry_text, IsSessionName, IsEntry}

-- no digit in base 36 comes next
abbrev pub StartsNoDigit : List ℕ → Type 0
StartsNoDigit [] = Unit {0}
StartsNoDigit (c ∷ rest) = is_digit36 c ≡ false

-- where digits end is seen from the text
pub same_front : (t u rest more : List ℕ) → AllPass is_digit36 t → AllPass is_digit36 u → StartsNoDigit rest → StartsNoDigit more → t ++ rest ≡ u ++ more → (t ≡ u) × (rest ≡ more)
same_front [] [] rest more p q r s same = (refl, same)
same_front [] (d ∷ u) rest more p q r s same =
    let digit = All-head (λ b. is_digit36 b ≡ true) d u q in
    let none : StartsNoDigit (d ∷ (u ++ more)) = subst StartsNoDigit same r in
    absurd (false≢true (sym none ∙ digit))
same_front (c ∷ t) [] rest more p q r s same =
    let digit = All-head (λ b. is_digit36 b ≡ true) c t p in
    let none : StartsNoDigit (c ∷ (t ++ rest)) = subst StartsNoDigit (sym same) s in
    absurd (false≢true (sym none ∙ digit))
same_front (c ∷ t) (d ∷ u) rest more p q r s same =
    let first : c ≡ d = cc in
    let tails : t ++ rest ≡ u ++ more = cc in
    let below = same_front t u rest more (All-tail (λ b. is_digit36 b ≡ true) c t p) (All-tail (λ b. is_digit36 b ≡ true) d u q) r s tails in
    (ap (λ x. x ∷ t) first ∙ ap (λ x. d ∷ x) below.0, below.1)

-- a number and what follows it are seen from the text
pub same_number_front : (v w : ℕ) (rest more : List ℕ) → StartsNoDigit rest → StartsNoDigit more → text36 v ++ rest ≡ text36 w ++ more → (v ≡ w) × (rest ≡ more)
same_number_front v w rest more r s same =
    let p = text36_spells v in
    let q = text36_spells w in
    let fronts = same_front (text36 v) (text36 w) rest more p.digits q.digits r s same in
    let other : Spells36 (text36 v) w = subst (λ t. Spells36 t w) (sym fronts.0) q in
    (same_number36 p other, fronts.1)

-- the parts of what entries begin with
pub stem_text-parts : (name : SessionName) (rest : List ℕ) → stem_text name ++ rest ≡ codes "s-" ++ (text36 name.moment ++ (codes "-" ++ (text36 name.random ++ rest)))
unfolding stem_text
stem_text-parts name rest = simp append_assoc

pub same_name : (m n : SessionName) → m.moment ≡ n.moment → m.random ≡ n.random → m ≡ n
same_name m n moments randoms =
    ap (λ t. record m { moment = t }) moments ∙ ap (λ r. record n { random = r }) randoms

-- a session and what follows are seen from the text
pub same_stem : (m n : SessionName) (rest more : List ℕ) → StartsNoDigit rest → StartsNoDigit more → stem_text m ++ rest ≡ stem_text n ++ more → (m ≡ n) × (rest ≡ more)
same_stem m n rest more r s same =
    let whole = sym (stem_text-parts m rest) ∙ same ∙ stem_text-parts n more in
    let after = append_cancel_left (codes "s-") (text36 m.moment ++ (codes "-" ++ (text36 m.random ++ rest))) (text36 n.moment ++ (codes "-" ++ (text36 n.random ++ more))) whole in
    let moments = same_number_front m.moment n.moment (codes "-" ++ (text36 m.random ++ rest)) (codes "-" ++ (text36 n.random ++ more)) refl refl after in
    let tails = append_cancel_left (codes "-") (text36 m.random ++ rest) (text36 n.random ++ more) moments.1 in
    let randoms = same_number_front m.random n.random rest more r s tails in
    (same_name m n moments.0 randoms.0, randoms.1)

pub length-wide36 : (v : ℕ) → length (wide36 v) ≡ 25
unfolding wide36
length-wide36 v = length-last_digits36 25 v

pub same_lock_text : (m n : SessionName) → lock_text m ≡ lock_text n → m ≡ n
unfolding lock_text
same_lock_text m n same = (same_stem m n (codes ".lock") (codes ".lock") refl refl same).0

pub same_working_text : (m n : SessionName) → working_text m ≡ working_text n → m ≡ n
unfolding working_text
same_working_text m n same = (same_stem m n (codes "-working") (codes "-working") refl refl same).0

final_text-parts : (name : SessionName) (hash : ℕ) → final_text name hash ≡ stem_text name ++ (codes "-" ++ wide36 hash)
unfolding final_text
final_text-parts name hash = append_assoc (stem_text name) (codes "-") (wide36 hash)

same_wide : (h k : ℕ) → h < 2 ^ 128 → k < 2 ^ 128 → wide36 h ≡ wide36 k → h ≡ k
same_wide h k h_small k_small same =
    let other : SpellsWide36 (wide36 h) k = subst (λ t. SpellsWide36 t k) (sym same) (wide36_spells k k_small) in
    same_wide_number36 (wide36_spells h h_small) other

-- the session of a finalised directory is seen from its text, whatever the numbers of the two hashes
pub same_final_name : (m n : SessionName) (h k : ℕ) → final_text m h ≡ final_text n k → m ≡ n
same_final_name m n h k same =
    (same_stem m n (codes "-" ++ wide36 h) (codes "-" ++ wide36 k) refl refl (sym (final_text-parts m h) ∙ same ∙ final_text-parts n k)).0

pub same_final_text : (m n : SessionName) (h k : ℕ) → h < 2 ^ 128 → k < 2 ^ 128 → final_text m h ≡ final_text n k → (m ≡ n) × (h ≡ k)
same_final_text m n h k h_small k_small same =
    let parts = same_stem m n (codes "-" ++ wide36 h) (codes "-" ++ wide36 k) refl refl (sym (final_text-parts m h) ∙ same ∙ final_text-parts n k) in
    (parts.0, same_wide h k h_small k_small (append_cancel_left (codes "-") (wide36 h) (wide36 k) parts.1))

pub lock_is_no_working : (m n : SessionName) → lock_text m ≢ working_text n
unfolding lock_text working_text
lock_is_no_working m n same =
    let tails = (same_stem m n (codes ".lock") (codes "-working") refl refl same).1 in
    absurd (omega (arith, ap length tails))

pub lock_is_no_final : (m n : SessionName) (hash : ℕ) → lock_text m ≢ final_text n hash
unfolding lock_text
lock_is_no_final m n hash same =
    let tails = (same_stem m n (codes ".lock") (codes "-" ++ wide36 hash) refl refl (same ∙ final_text-parts n hash)).1 in
    absurd (omega (arith, ap length tails, length-wide36 hash))

pub working_is_no_final : (m n : SessionName) (hash : ℕ) → working_text m ≢ final_text n hash
unfolding working_text
working_is_no_final m n hash same =
    let tails = (same_stem m n (codes "-working") (codes "-" ++ wide36 hash) refl refl (same ∙ final_text-parts n hash)).1 in
    absurd (omega (arith, ap length tails, length-wide36 hash))

-- an entry is seen from its text
pub same_entry : (d e : Entry) → IsEntry d → IsEntry e → entry_text d ≡ entry_text e → d ≡ e
same_entry (Lock m) (Lock n) p q same = ap Lock (same_lock_text m n same)
same_entry (Lock m) (Working n) p q same = absurd (lock_is_no_working m n same)
same_entry (Lock m) (Final n k) p q same = absurd (lock_is_no_final m n k same)
same_entry (Working m) (Lock n) p q same = absurd (lock_is_no_working n m (sym same))
same_entry (Working m) (Working n) p q same = ap Working (same_working_text m n same)
same_entry (Working m) (Final n k) p q same = absurd (working_is_no_final m n k same)
same_entry (Final m h) (Lock n) p q same = absurd (lock_is_no_final n m h (sym same))
same_entry (Final m h) (Working n) p q same = absurd (working_is_no_final n m h (sym same))
same_entry (Final m h) (Final n k) p q same =
    let parts = same_final_text m n h k p.1 q.1 same in
    let names = parts.0 in
    let hashes = parts.1 in
    cc

length-text36-le : (v : ℕ) → v < 2 ^ 128 → length (text36 v) ≤ 25
unfolding text36
length-text36-le zero small = lit≤ tt
length-text36-le (suc n) small =
    let enough : 2 ^ 128 ≤ 36 ^ 25 = lit≤ tt in
    omega (arith, length-map (digits_of 36 (suc n)) digit_char, length-digits_of-le 36 25 (suc n) (omega arith) (omega arith))

digit_is_label_byte : (b : ℕ) → is_digit36 b ≡ true → is_label_byte b ≡ true
digit_is_label_byte b is = grind (arith, nat_tests)

digits_pass : (text : List ℕ) → AllPass is_digit36 text → AllPass is_label_byte text
digits_pass text all = All-weaker (λ b. is_digit36 b ≡ true) (λ b. is_label_byte b ≡ true) digit_is_label_byte text all

pass_append : (xs ys : List ℕ) → AllPass is_label_byte xs → AllPass is_label_byte ys → AllPass is_label_byte (xs ++ ys)
pass_append xs ys p q = All-append (λ b. is_label_byte b ≡ true) xs ys p q

-- what begins with a session and has a short end is a label
stem_is_label : (name : SessionName) (rest : List ℕ) → IsSessionName name → length rest ≤ 26 → AllPass is_label_byte rest → IsLabel (stem_text name ++ rest)
stem_is_label name rest is few each =
    let moment_small : name.moment < 2 ^ 128 = omega (arith, is.moment) in
    let random_small : name.random < 2 ^ 128 = omega (arith, is.random) in
    let moment = text36 name.moment in
    let random = text36 name.random in
    let whole = stem_text-parts name rest in
    let tail = random ++ rest in
    let count : length (stem_text name ++ rest) ≡ 2 + (length moment + (1 + (length random + length rest))) = omega (arith, ap length whole, length-append moment (codes "-" ++ tail), length-append random rest) in
    let passes : AllPass is_label_byte (codes "s-" ++ (moment ++ (codes "-" ++ (random ++ rest)))) =
    pass_append (codes "s-") (moment ++ (codes "-" ++ (random ++ rest))) (AllPass-from_list_all is_label_byte (codes "s-") refl)
    (pass_append moment (codes "-" ++ (random ++ rest)) (digits_pass moment (text36_spells name.moment).digits)
    (pass_append (codes "-") (random ++ rest) (AllPass-from_list_all is_label_byte (codes "-") refl)
    (pass_append random rest (digits_pass random (text36_spells name.random).digits) each))) in
    record {
      some = omega (arith, count);
      few = omega (arith, count, length-text36-le name.moment moment_small, length-text36-le name.random random_small);
      each = rw whole passes;
      no_dot = λ same. absurd (omega (arith, ap (λ t. get_or t 0 0) (sym whole ∙ same)));
      no_dots = λ same. absurd (omega (arith, ap (λ t. get_or t 0 0) (sym whole ∙ same)));
    }

-- the text of an entry is a label
pub entry_is_label : (e : Entry) → IsEntry e → IsLabel (entry_text e)
unfolding lock_text working_text
entry_is_label (Lock name) is =
    stem_is_label name (codes ".lock") is (lit≤ tt) (AllPass-from_list_all is_label_byte (codes ".lock") refl)
entry_is_label (Working name) is =
    stem_is_label name (codes "-working") is (lit≤ tt) (AllPass-from_list_all is_label_byte (codes "-working") refl)
entry_is_label (Final name hash) is =
    let digits = digits_pass (wide36 hash) (wide36_spells hash is.1).digits in
    let all = pass_append (codes "-") (wide36 hash) (AllPass-from_list_all is_label_byte (codes "-") refl) digits in
    subst IsLabel (sym (final_text-parts name hash)) (stem_is_label name (codes "-" ++ wide36 hash) is.0 (omega (arith, length-wide36 hash)) all)
