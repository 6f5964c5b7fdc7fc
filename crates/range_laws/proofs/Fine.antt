-- Each token of a text of at most 1,048,576 bytes is near and short, and they are no more than the bytes.
use Rattle.std.proofs.Common.{◌≡◌, ℕ, ◌+◌, ◌≤◌, not, List, [], ◌∷◌, ◌++◌, length, sym, ap, subst, arith, length-append, pos}
use Rattle.std.specs.Prelude.{◌^◌, ◌&&◌, FitsSigned, nat_lt}
use Rattle.std.specs.Int.{w64}
use Rattle.std.specs.List.{list_all}
use Rattle.std.specs.Char.{is_ascii_digit}
use Rattle.std.proofs.lemmas.Bool.{ltb-true}
use Rattle.std.proofs.lemmas.List.Sums.{count_by-le-length, suffix_len-le-length}
use Rattle.rs_tree.proofs.Both.{right_of}
use Rattle.rs_tree.specs.Words.{begins, is_number_byte, value_of}
use Rattle.rs_tree.specs.declared.kind.Kind.TheVariants as k
use Rattle.rs_tree.specs.declared.token.Token.{Token}
use Rattle.rs_lex.specs.Pieces as p
use Rattle.rs_lex.specs.Pieces.{Piece}
use Rattle.rs_lex.specs.Places.{is_line_feed, place_of}
use Rattle.rs_lex.specs.Tokens.{AllStand, HasTokens, joined, tokens_in}
use Rattle.rs_lex.proofs.Ranges.{some_bytes}
use Rattle.rs_grammar.specs.Lexeme.{kind_of_text, lexemes}
use Rattle.rs_grammar.proofs.Texts.{number_text}
use Rattle.range_laws.specs.Bounded.{most, IsNear, IsShort}
use Rattle.range_laws.proofs.Kept.{AllFine}

number_fits : (text : List ℕ) → kind_of_text text ≡ k.Number → FitsSigned w64 (pos (value_of text))
number_fits text e =
    let h = ltb-true (value_of text) (2 ^ 63) (right_of (begins is_ascii_digit text && list_all is_number_byte text) (nat_lt (value_of text) (2 ^ 63)) (number_text text e)) in
    record { sfits = h }

pub place_near : (before : List ℕ) → IsShort before → IsNear (place_of before)
place_near before h =
    let lines = count_by-le-length is_line_feed before in
    let columns = suffix_len-le-length (λ b. not (is_line_feed b)) before in
    record { line = omega (arith, lines, h); column = omega (arith, columns, h) }

few_tokens : (before : List ℕ) (pieces : List Piece) (rest : List ℕ) → AllStand pieces rest → length (tokens_in before pieces) ≤ length (joined pieces)
few_tokens before [] rest s = omega arith
few_tokens before (p.Token text ∷ pieces) rest s =
    let l = length-append text (joined pieces) in
    let m = few_tokens (before ++ text) pieces rest s.1 in
    let n = some_bytes (p.Token text) (joined pieces ++ rest) s.0 in
    omega (arith, l, m, n)
few_tokens before (p.Comment text ∷ pieces) rest s = (let l = length-append text (joined pieces) in let m = few_tokens (before ++ text) pieces rest s.1 in omega (arith, l, m))
few_tokens before (p.Blank b ∷ pieces) rest s = (let m = few_tokens (before ++ b ∷ []) pieces rest s.1 in omega (arith, m))

each_fine : (before : List ℕ) (pieces : List Piece) (rest : List ℕ) → AllStand pieces rest → length before + length (joined pieces) ≤ most → AllFine (lexemes (tokens_in before pieces))
each_fine before [] rest s h = tt
each_fine before (p.Token text ∷ pieces) rest s h =
    let l = length-append text (joined pieces) in
    let m = length-append before text in
    let near = place_near before (omega (arith, h)) in
    let short : length text ≤ most = omega (arith, l, h) in
    (record { at = near; text = short; number = number_fits text }, each_fine (before ++ text) pieces rest s.1 (omega (arith, l, m, h)))
each_fine before (p.Comment text ∷ pieces) rest s h = (let l = length-append text (joined pieces) in let m = length-append before text in each_fine (before ++ text) pieces rest s.1 (omega (arith, l, m, h)))
each_fine before (p.Blank b ∷ pieces) rest s h = (let m = length-append before (b ∷ []) in each_fine (before ++ b ∷ []) pieces rest s.1 (omega (arith, m, h)))

-- the tokens of a text
pub record FineTokens (tokens : List Token) : Type 0 where
  pub few : length tokens ≤ most
  pub each : AllFine (lexemes tokens)

pub tokens_fine : (text : List ℕ) (tokens : List Token) → IsShort text → HasTokens text tokens → FineTokens tokens
tokens_fine text tokens h has =
    let l : length text ≡ length (joined has.are.pieces) = ap length has.are.joins in
    let m = few_tokens [] has.are.pieces [] has.are.stand in
    subst FineTokens (sym has.are.gives) (record { few = omega (arith, h, l, m); each = each_fine [] has.are.pieces [] has.are.stand (omega (arith, h, l)) })
