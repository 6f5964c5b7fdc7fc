-- Places, byte by byte.
use Rattle.std.proofs.Common.{◌≡◌, ℕ, ◌+◌, not, Bool, true, false, cond, List, [], ◌∷◌, ◌++◌, refl, sym, ap, ◌∙◌, append_assoc, append-nil, arith}
use Rattle.std.specs.Prelude.{count_by}
use Rattle.std.specs.List.{suffix_len}
use Rattle.std.proofs.lemmas.List.{reverse-append}
use Rattle.std.proofs.lemmas.List.Sums.{sum_by-append}
use Rattle.rs_tree.specs.declared.place.At.{At}
use Rattle.rs_lex.specs.Places.{is_line_feed, place_after, place_of}

after_byte : At → ℕ → At
after_byte at b = cond (is_line_feed b) (record { line = at.line + 1; column = 1 }) (record { line = at.line; column = at.column + 1 })

count_push : (before : List ℕ) (b : ℕ) → count_by is_line_feed (before ++ b ∷ []) ≡ count_by is_line_feed before + (0 + cond (is_line_feed b) 1 0)
count_push before b = sum_by-append (λ x. cond (is_line_feed x) 1 0) before (b ∷ [])

suffix_push : (before : List ℕ) (b : ℕ) (feed : Bool) → is_line_feed b ≡ feed → suffix_len (λ x. not (is_line_feed x)) (before ++ b ∷ []) ≡ cond feed 0 (1 + suffix_len (λ x. not (is_line_feed x)) before)
suffix_push before b true is = rw (reverse-append before (b ∷ []), is) refl
suffix_push before b false is = rw (reverse-append before (b ∷ []), is) refl

place : ℕ → ℕ → At
place line column = record { line = line; column = column }

push_is : (before : List ℕ) (b : ℕ) (feed : Bool) → is_line_feed b ≡ feed → after_byte (place_of before) b ≡ place_of (before ++ b ∷ [])
unfolding after_byte place
push_is before b true is =
    let lines = rw is at (count_push before b) in
    let line : 1 + count_by is_line_feed before + 1 ≡ 1 + count_by is_line_feed (before ++ b ∷ []) = omega (arith, lines) in
    let column : 1 ≡ 1 + suffix_len (λ x. not (is_line_feed x)) (before ++ b ∷ []) = ap (λ n. 1 + n) (sym (suffix_push before b true is)) in
    rw is (ap (λ l. place l 1) line ∙ ap (place (1 + count_by is_line_feed (before ++ b ∷ []))) column)
push_is before b false is =
    let lines = rw is at (count_push before b) in
    let line : 1 + count_by is_line_feed before ≡ 1 + count_by is_line_feed (before ++ b ∷ []) = omega (arith, lines) in
    let columns = suffix_push before b false is in
    let column : 1 + suffix_len (λ x. not (is_line_feed x)) before + 1 ≡ 1 + suffix_len (λ x. not (is_line_feed x)) (before ++ b ∷ []) = omega (arith, columns) in
    rw is (ap (λ l. place l (1 + suffix_len (λ x. not (is_line_feed x)) before + 1)) line ∙ ap (place (1 + count_by is_line_feed (before ++ b ∷ []))) column)

pub place_after_is : (before bytes : List ℕ) → place_after (place_of before) bytes ≡ place_of (before ++ bytes)
unfolding after_byte
place_after_is before [] = ap place_of (sym (append-nil before))
place_after_is before (b ∷ bs) = ap (λ at. place_after at bs) (push_is before b _ refl) ∙ place_after_is (before ++ b ∷ []) bs ∙ ap place_of (append_assoc before (b ∷ []) bs)
