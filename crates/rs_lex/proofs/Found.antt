-- What `piece_at` finds is what stands there, and nothing else does.
use Rattle.std.proofs.Common.{◌≡◌, ℕ, ◌+◌, ◌-◌, ◌<◌, ◌≤◌, ◌&&◌, not, Bool, true, false, List, [], ◌∷◌, ◌++◌, length, take, drop, Some, None, refl, sym, ap, ◌∙◌, nat_eq, arith, append_assoc, length-append}
use Rattle.std.specs.Prelude.{is_some, Option}
use Rattle.std.specs.List.{prefix_len, starts_with, take_while}
use Rattle.std.proofs.lemmas.List.{length-take-le, take-append-drop}
use Rattle.std.proofs.lemmas.Bool.Decides.{nat_tests}
use Rattle.std.proofs.Math.Seq.{take-append-add}
use Rattle.std.proofs.lemmas.List.Folds.{length-prefix_len}
use Rattle.std.proofs.lemmas.List.Sums.{prefix_len-le-length}
use Rattle.rs_tree.proofs.Both.{left_of, right_of}
use Rattle.rs_tree.specs.Kinds.{kind_of}
use Rattle.rs_lex.specs.Pieces.{IsComment, IsToken, Piece, Blank, Comment, Token, Stands, is_blank, is_comment_byte, is_doc, is_form, spelling}
use Rattle.rs_lex.specs.Scan.{form_length, is_comment, piece_at, token_at, word_at}
use Rattle.rs_lex.proofs.Fronts.{take_front, prefix_exact, prefix_passes, prefix_stops}
use Rattle.rs_lex.proofs.Forms.{form_found, form_length-ge, token_is_form, nothing_is_no_token, slashes_are_a_form, slashes_are_no_token, blank_is_no_token}

pub nothing_left : (more : List ℕ) → length more ≡ 0 → more ≡ []
nothing_left [] e = refl
nothing_left (b ∷ bs) e = absurd (omega arith)

-- tokens

pub longest_is_token : (rest : List ℕ) → is_some (kind_of (take (form_length rest) rest)) ≡ true → IsToken (take (form_length rest) rest) (drop (form_length rest) rest)
longest_is_token rest kind = record {
  kind = kind;
  longest = λ more after is form. nothing_left more (shorter more after is form);
} where
  n : ℕ
  n = form_length rest

  shorter : (more after : List ℕ) → drop (form_length rest) rest ≡ more ++ after → is_form (take (form_length rest) rest ++ more) ≡ true → length more ≡ 0
  shorter more after is form =
      let whole : rest ≡ (take (form_length rest) rest ++ more) ++ after =
      sym (take-append-drop (form_length rest) rest) ∙ ap (λ later. take (form_length rest) rest ++ later) is ∙ sym (append_assoc (take (form_length rest) rest) more after) in
      let most = form_length-ge (take (form_length rest) rest ++ more) rest after whole form in
      let within = (form_found rest).within in
      omega (arith, most, length-append (take (form_length rest) rest) more, length-take-le (form_length rest) rest within)

token_is_some : (text after : List ℕ) → IsToken text after → 0 < length text
token_is_some [] after token = let none = nothing_is_no_token in let some = token.kind in cc
token_is_some (b ∷ bs) after token = omega arith

-- a token is the longest form
pub token_length : (text after rest : List ℕ) → rest ≡ text ++ after → IsToken text after → length text ≡ form_length rest
token_length text after rest is token =
    let most = form_length-ge text rest after is (token_is_form text token.kind) in
    let found = form_found rest in
    let some = token_is_some text after token in
    let n = form_length rest in
    let long : length text ≤ n = most in
    let form : is_form (take n rest) ≡ true = found.passes (omega (arith, most, some)) in
    let later : take n rest ≡ text ++ take (n - length text) after = further text after rest n is long in
    let none : take (n - length text) after ≡ [] = token.longest (take (n - length text) after) (drop (n - length text) after) (sym (take-append-drop (n - length text) after)) (rw later at form) in
    let e : length (take n rest) ≡ length text + 0 = ap length later ∙ length-append text (take (n - length text) after) ∙ ap (λ xs. length text + length xs) none in
    omega (arith, e, length-take-le n rest found.within)
  where
    further : (text after rest : List ℕ) (n : ℕ) → rest ≡ text ++ after → length text ≤ n → take n rest ≡ text ++ take (n - length text) after
    further text after rest n is long =
        let split : n ≡ length text + (n - length text) = omega arith in
        ap (take n) is ∙ ap (λ k. take k (text ++ after)) split ∙ take-append-add text after (n - length text)

-- comments

pub run_is_comment : (rest : List ℕ) → is_comment (take_while is_comment_byte rest) ≡ true → IsComment (take_while is_comment_byte rest) (drop (prefix_len is_comment_byte rest) rest)
run_is_comment rest is = record {
  begun = left_of (starts_with nat_eq (take_while is_comment_byte rest) (47 ∷ 47 ∷ [])) (not (is_doc (take_while is_comment_byte rest))) is;
  plain = negated (is_doc (take_while is_comment_byte rest)) (right_of (starts_with nat_eq (take_while is_comment_byte rest) (47 ∷ 47 ∷ [])) (not (is_doc (take_while is_comment_byte rest))) is);
  each = prefix_passes is_comment_byte rest;
  whole = prefix_stops is_comment_byte rest;
} where
  negated : (b : Bool) → not b ≡ true → b ≡ false
  negated true h = cc
  negated false h = refl

pub comment_is_run : (text after rest : List ℕ) → rest ≡ text ++ after → IsComment text after → take_while is_comment_byte rest ≡ text
comment_is_run text after rest is comment =
    let exact : prefix_len is_comment_byte rest ≡ length text = ap (prefix_len is_comment_byte) is ∙ prefix_exact is_comment_byte text after comment.each comment.whole in
    ap (λ k. take k rest) exact ∙ take_front rest text after is

pub comment_passes : (text after : List ℕ) → IsComment text after → is_comment text ≡ true
comment_passes text after comment = rw (comment.begun, comment.plain) refl

-- a comment begins with two slashes
record BeginsWithSlashes (text : List ℕ) : Type 0 where
  rest : List ℕ
  is : text ≡ 47 ∷ 47 ∷ rest

two_slashes : (b d : ℕ) (bs : List ℕ) → (nat_eq 47 b && (nat_eq 47 d && true)) ≡ true → BeginsWithSlashes (b ∷ d ∷ bs)
two_slashes b d bs h =
    let first : b ≡ 47 = grind (arith, nat_tests) in
    let second : d ≡ 47 = grind (arith, nat_tests) in
    record { rest = bs; is = cc }

slashes_of : (text : List ℕ) → starts_with nat_eq text (47 ∷ 47 ∷ []) ≡ true → BeginsWithSlashes text
slashes_of [] h = absurd (cc)
slashes_of (b ∷ []) h = absurd (one_slash (nat_eq 47 b) h) where
  one_slash : (x : Bool) → (x && false) ≡ true → ⊥
  one_slash true e = cc
  one_slash false e = cc
slashes_of (b ∷ d ∷ bs) h = two_slashes b d bs h

-- what is found stands there
pub record IsFound (rest : List ℕ) (piece : Piece) : Type 0 where
  pub split : rest ≡ spelling piece ++ drop (length (spelling piece)) rest
  pub some : 0 < length (spelling piece)
  pub stands : Stands piece (drop (length (spelling piece)) rest)

found_of : (rest : List ℕ) (piece : Piece) (n : ℕ) → n ≤ length rest → 0 < n → spelling piece ≡ take n rest → Stands piece (drop n rest) → IsFound rest piece
found_of rest piece n within some is stands =
    let long : length (spelling piece) ≡ n = ap length is ∙ length-take-le n rest within in
    record {
      split = rw (long, is) (sym (take-append-drop n rest));
      some = omega arith;
      stands = rw long stands;
    }

option_is : (a b : Piece) → Some a ≡ Some b → a ≡ b
option_is a b h = cc

token_found : (rest : List ℕ) (piece : Piece) (kind : Bool) → is_some (kind_of (take (form_length rest) rest)) ≡ kind → token_at rest ≡ Some piece → IsFound rest piece
token_found rest piece true is found =
    let token = longest_is_token rest is in
    let within = (form_found rest).within in
    let same : piece ≡ Token (take (form_length rest) rest) = option_is piece _ (sym found ∙ rw is refl) in
    let some : 0 < form_length rest = omega (arith, token_is_some _ _ token, length-take-le (form_length rest) rest within) in
    rw same (found_of rest (Token (take (form_length rest) rest)) (form_length rest) within some refl token)
token_found rest piece false is found = let none : token_at rest ≡ None = rw is refl in cc

comment_found : (rest : List ℕ) (piece : Piece) (comment : Bool) → is_comment (take_while is_comment_byte rest) ≡ comment → word_at rest ≡ Some piece → IsFound rest piece
comment_found rest piece true is found =
    let comment = run_is_comment rest is in
    let same : piece ≡ Comment (take_while is_comment_byte rest) = option_is piece _ (sym found ∙ rw is refl) in
    let long : length (take_while is_comment_byte rest) ≡ prefix_len is_comment_byte rest = length-prefix_len is_comment_byte rest in
    rw same (found_of rest (Comment (take_while is_comment_byte rest)) (prefix_len is_comment_byte rest) (prefix_len-le-length is_comment_byte rest) (long_enough _ _ long (slashes_of (take_while is_comment_byte rest) comment.begun)) refl comment)
  where
    long_enough : (text : List ℕ) (n : ℕ) → length text ≡ n → BeginsWithSlashes text → 0 < n
    long_enough text n is slashes = omega (arith, ap length slashes.is)
comment_found rest piece false is found = token_found rest piece _ refl (sym (rw is refl) ∙ found)

blank_found : (b : ℕ) (bs : List ℕ) (piece : Piece) (blank : Bool) → is_blank b ≡ blank → piece_at (b ∷ bs) ≡ Some piece → IsFound (b ∷ bs) piece
blank_found b bs piece true is found =
    let same : piece ≡ Blank b = option_is piece (Blank b) (sym found ∙ rw is refl) in
    rw same (found_of (b ∷ bs) (Blank b) 1 (omega arith) (omega arith) refl is)
blank_found b bs piece false is found = comment_found (b ∷ bs) piece _ refl (sym (rw is refl) ∙ found)

pub piece_at-found : (rest : List ℕ) (piece : Piece) → piece_at rest ≡ Some piece → IsFound rest piece
piece_at-found [] piece found = cc
piece_at-found (b ∷ bs) piece found = blank_found b bs piece _ refl found

-- what stands there is found

token_is_found : (text after rest : List ℕ) → rest ≡ text ++ after → IsToken text after → token_at rest ≡ Some (Token text)
token_is_found text after rest is token =
    let front : take (form_length rest) rest ≡ text = sym (ap (λ k. take k rest) (token_length text after rest is token)) ∙ take_front rest text after is in
    let kind : is_some (kind_of (take (form_length rest) rest)) ≡ true = ap (λ t. is_some (kind_of t)) front ∙ token.kind in
    rw kind (ap (λ t. Some (Token t)) front)

no_comment : (text after rest : List ℕ) → rest ≡ text ++ after → IsToken text after → (comment : Bool) → is_comment (take_while is_comment_byte rest) ≡ comment → comment ≡ false
no_comment text after rest is token false e = refl
no_comment text after rest is token true e =
    let comment = run_is_comment rest e in
    let slashes = slashes_of (take_while is_comment_byte rest) comment.begun in
    let whole : rest ≡ 47 ∷ 47 ∷ (slashes.rest ++ drop (prefix_len is_comment_byte rest) rest) =
    sym (take-append-drop (prefix_len is_comment_byte rest) rest) ∙ ap (λ front. front ++ drop (prefix_len is_comment_byte rest) rest) slashes.is in
    absurd (both_slashes text after rest (slashes.rest ++ drop (prefix_len is_comment_byte rest) rest) is whole token)
  where
    two_bytes : (text after bs : List ℕ) → text ++ after ≡ 47 ∷ 47 ∷ bs → IsToken text after → 2 ≤ length text → ⊥
    two_bytes [] after bs is token long = omega arith
    two_bytes (b ∷ []) after bs is token long = omega arith
    two_bytes (b ∷ d ∷ more) after bs is token long =
        let first : b ≡ 47 = cc in
        let second : d ≡ 47 = cc in
        let kind : is_some (kind_of (47 ∷ 47 ∷ more)) ≡ true = ap (λ t. is_some (kind_of t)) (cc) ∙ token.kind in
        let none = slashes_are_no_token more in
        cc

    both_slashes : (text after rest bs : List ℕ) → rest ≡ text ++ after → rest ≡ 47 ∷ 47 ∷ bs → IsToken text after → ⊥
    both_slashes text after rest bs is slashes token =
        let long = form_length-ge (47 ∷ 47 ∷ []) rest bs slashes slashes_are_a_form in
        let same = token_length text after rest is token in
        two_bytes text after bs (sym is ∙ slashes) token (omega (arith, long, same))

no_blank : (b : ℕ) (bs after : List ℕ) (blank : Bool) → is_blank b ≡ blank → IsToken (b ∷ bs) after → blank ≡ false
no_blank b bs after false is token = refl
no_blank b bs after true is token = let none = blank_is_no_token b bs is in let some = token.kind in cc

pub piece_at-is : (rest : List ℕ) (piece : Piece) (after : List ℕ) → rest ≡ spelling piece ++ after → Stands piece after → piece_at rest ≡ Some piece
piece_at-is rest (Blank b) after is stands = rw (is, stands) refl
piece_at-is rest (Comment text) after is comment =
    let slashes = slashes_of text comment.begun in
    let whole : rest ≡ 47 ∷ 47 ∷ (slashes.rest ++ after) = is ∙ ap (λ front. front ++ after) slashes.is in
    let run = comment_is_run text after rest is comment in
    let passes : is_comment (take_while is_comment_byte rest) ≡ true = ap is_comment run ∙ comment_passes text after comment in
    let found : word_at rest ≡ Some (Comment text) = rw passes (ap (λ t. Some (Comment t)) run) in
    slashes_first rest (slashes.rest ++ after) whole (Some (Comment text)) found
  where
    slashes_first : (rest bs : List ℕ) → rest ≡ 47 ∷ 47 ∷ bs → (found : Option Piece) → word_at rest ≡ found → piece_at rest ≡ found
    slashes_first rest bs is found word = rw is (rw is at word)
piece_at-is rest (Token text) after is token = token_first text after rest is token where
  token_word : (text after rest : List ℕ) → rest ≡ text ++ after → IsToken text after → word_at rest ≡ Some (Token text)
  token_word text after rest is token = rw (no_comment text after rest is token _ refl) (token_is_found text after rest is token)

  token_first : (text after rest : List ℕ) → rest ≡ text ++ after → IsToken text after → piece_at rest ≡ Some (Token text)
  token_first [] after rest is token = let none = nothing_is_no_token in let some = token.kind in cc
  token_first (b ∷ bs) after rest is token =
      let word = token_word (b ∷ bs) after rest is token in
      let plain : is_blank b ≡ false = no_blank b bs after _ refl token in
      rw (is, plain) (rw is at word)
