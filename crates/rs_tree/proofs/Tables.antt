-- A text is found among the rows of its length.
use Rattle.std.proofs.Common.{◌≡◌, ℕ, ◌≢◌, ◌==◌, ◌&&◌, not, Bool, true, false, List, [], ◌∷◌, length, None, refl, sym, ap, ◌∙◌, nat_eq, nat_le, arith}
use Rattle.std.specs.Cmp.Lexicographic.{pointwise, same_text}
use Rattle.std.specs.List.{list_all}
use Rattle.std.proofs.lemmas.Bool.Decides.{nat_tests}
use Rattle.rs_tree.proofs.Both.{left_of, right_of}
use Rattle.rs_tree.specs.Kinds.{kind_in, of_length, keywords, signs}
use Rattle.rs_tree.specs.declared.kind.Kind.{Kind}

same_length : (text word : List ℕ) → pointwise nat_eq text word ≡ true → (length word == length text) ≡ true
same_length text word is = let e : length text ≡ length word = ap length (same_text text word (sym is)) in grind (arith, nat_tests)

among_step : (text word : List ℕ) (kind : Kind) (rows : List (List ℕ × Kind)) (same kept : Bool) → pointwise nat_eq text word ≡ same → (length word == length text) ≡ kept →
    kind_in rows text ≡ kind_in (of_length (length text) rows) text → kind_in ((word, kind) ∷ rows) text ≡ kind_in (of_length (length text) ((word, kind) ∷ rows)) text
among_step text word kind rows true true s k more = rw (s, k, s) refl
among_step text word kind rows true false s k more = let h = same_length text word s in cc
among_step text word kind rows false true s k more = rw (s, k, s) more
among_step text word kind rows false false s k more = rw (s, k) more

pub among_its_length : (rows : List (List ℕ × Kind)) (text : List ℕ) → kind_in rows text ≡ kind_in (of_length (length text) rows) text
among_its_length [] text = refl
among_its_length (r ∷ rows) text = among_step text r.0 r.1 rows _ _ refl refl (among_its_length rows text)

is_within : List ℕ × Kind → Bool
is_within r = nat_le 2 (length r.0) && nat_le (length r.0) 8

record IsElsewhere (n : ℕ) : Type 0 where
  two : n ≢ 2
  three : n ≢ 3
  four : n ≢ 4
  five : n ≢ 5
  six : n ≢ 6
  seven : n ≢ 7
  eight : n ≢ 8

none_step : (n : ℕ) (r : List ℕ × Kind) (rows : List (List ℕ × Kind)) → IsElsewhere n → is_within r ≡ true → of_length n rows ≡ [] → of_length n (r ∷ rows) ≡ []
unfolding is_within
none_step n r rows away within more = let other : (length r.0 == n) ≡ false = grind (arith, nat_tests) in rw other more

none_of_length : (n : ℕ) (rows : List (List ℕ × Kind)) → IsElsewhere n → list_all is_within rows ≡ true → of_length n rows ≡ []
none_of_length n [] away within = refl
none_of_length n (r ∷ rows) away within = none_step n r rows away (left_of _ _ within) (none_of_length n rows away (right_of _ _ within))

keywords_within : list_all is_within keywords ≡ true
unfolding keywords is_within
keywords_within = refl

pub elsewhere_none : (text : List ℕ) → length text ≢ 2 → length text ≢ 3 → length text ≢ 4 → length text ≢ 5 → length text ≢ 6 → length text ≢ 7 → length text ≢ 8 → kind_in keywords text ≡ None
elsewhere_none text two three four five six seven eight =
    among_its_length keywords text ∙ ap (λ rows. kind_in rows text) (none_of_length (length text) keywords (record { two = two; three = three; four = four; five = five; six = six; seven = seven; eight = eight }) keywords_within)

pub at_length : (text : List ℕ) (n : ℕ) → length text ≡ n → kind_in keywords text ≡ kind_in (of_length n keywords) text
at_length text n is = among_its_length keywords text ∙ ap (λ k. kind_in (of_length k keywords) text) is

pub sign_at_length : (text : List ℕ) (n : ℕ) → length text ≡ n → kind_in signs text ≡ kind_in (of_length n signs) text
sign_at_length text n is = among_its_length signs text ∙ ap (λ k. kind_in (of_length k signs) text) is

has_sign_length : List ℕ × Kind → Bool
has_sign_length r = nat_le 1 (length r.0) && nat_le (length r.0) 4 && not (length r.0 == 3)

record IsNoSignLength (n : ℕ) : Type 0 where
  one : n ≢ 1
  two : n ≢ 2
  four : n ≢ 4

sign_step : (n : ℕ) (r : List ℕ × Kind) (rows : List (List ℕ × Kind)) → IsNoSignLength n → has_sign_length r ≡ true → of_length n rows ≡ [] → of_length n (r ∷ rows) ≡ []
unfolding has_sign_length
sign_step n r rows away within more = let other : (length r.0 == n) ≡ false = grind (arith, nat_tests) in rw other more

no_sign_of_length : (n : ℕ) (rows : List (List ℕ × Kind)) → IsNoSignLength n → list_all has_sign_length rows ≡ true → of_length n rows ≡ []
no_sign_of_length n [] away within = refl
no_sign_of_length n (r ∷ rows) away within = sign_step n r rows away (left_of _ _ within) (no_sign_of_length n rows away (right_of _ _ within))

signs_have_lengths : list_all has_sign_length signs ≡ true
unfolding signs has_sign_length
signs_have_lengths = refl

pub no_sign : (text : List ℕ) → length text ≢ 1 → length text ≢ 2 → length text ≢ 4 → kind_in signs text ≡ None
no_sign text one two four =
    among_its_length signs text ∙ ap (λ rows. kind_in rows text) (no_sign_of_length (length text) signs (record { one = one; two = two; four = four }) signs_have_lengths)
