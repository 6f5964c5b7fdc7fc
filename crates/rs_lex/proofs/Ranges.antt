-- The tokens of a text are in the ranges of their types.
use Rattle.std.proofs.Common.{◌≡◌, ℕ, ◌+◌, ◌<◌, ◌≤◌, not, List, [], ◌∷◌, ◌++◌, length, refl, sym, ap, ◌∙◌, subst, arith, length-append}
use Rattle.std.proofs.lemmas.List.Sums.{count_by-le-length, suffix_len-le-length}
use Rattle.rs_tree.specs.declared.place.At.{At}
use Rattle.rs_tree.specs.declared.token.Token.{Token}
use Rattle.rs_lex.specs.Pieces as p
use Rattle.rs_lex.specs.Pieces.{Piece, Stands, spelling}
use Rattle.rs_lex.specs.Places.{is_line_feed}
use Rattle.rs_lex.specs.Tokens.{AllStand, joined, tokens_in}
use Rattle.rs_lex.specs.Ranges.{EachInRange, AreInRange}
use Rattle.rs_lex.proofs.Forms.{token_bytes}
use Rattle.rs_lex.proofs.Found.{piece_at-found, piece_at-is}
use Rattle.rs_lex.proofs.Texts.{IsRead}

pub some_bytes : (piece : Piece) (after : List ℕ) → Stands piece after → 0 < length (spelling piece)
some_bytes piece after stands = (piece_at-found (spelling piece ++ after) piece (piece_at-is (spelling piece ++ after) piece after refl stands)).some

-- no more tokens than bytes
few : (before : List ℕ) (pieces : List Piece) (rest : List ℕ) → AllStand pieces rest → length (tokens_in before pieces) ≤ length (joined pieces)
few before [] rest s = omega arith
few before (p.Token text ∷ pieces) rest s = let l = length-append text (joined pieces) in let m = few (before ++ text) pieces rest s.1 in let n = some_bytes (p.Token text) (joined pieces ++ rest) s.0 in omega arith
few before (p.Comment text ∷ pieces) rest s = let l = length-append text (joined pieces) in let m = few (before ++ text) pieces rest s.1 in omega arith
few before (p.Blank b ∷ pieces) rest s = let m = few (before ++ b ∷ []) pieces rest s.1 in omega arith

each : (before : List ℕ) (pieces : List Piece) (rest : List ℕ) → AllStand pieces rest → length before + length (joined pieces) < 4294967295 → EachInRange (tokens_in before pieces)
each before [] rest s h = tt
each before (p.Token text ∷ pieces) rest s h =
    let l = length-append text (joined pieces) in
    let m = length-append before text in
    let lines = count_by-le-length is_line_feed before in
    let columns = suffix_len-le-length (λ b. not (is_line_feed b)) before in
    (record { line = omega arith; column = omega arith; text = omega arith; bytes = token_bytes text s.0.kind }, each (before ++ text) pieces rest s.1 (omega arith))
each before (p.Comment text ∷ pieces) rest s h = let l = length-append text (joined pieces) in let m = length-append before text in each (before ++ text) pieces rest s.1 (omega arith)
each before (p.Blank b ∷ pieces) rest s h = let m = length-append before (b ∷ []) in each (before ++ b ∷ []) pieces rest s.1 (omega arith)

pub read_ranges : (text rest : List ℕ) (tokens : List Token) (at : At) → IsRead text rest tokens at → length text < 4294967295 → AreInRange tokens
read_ranges text rest tokens at read h =
    let l : length text ≡ length (joined read.pieces) + length rest = ap length read.joins ∙ length-append (joined read.pieces) rest in
    let m = few [] read.pieces rest read.stand in
    subst AreInRange (sym read.gives) (record { few = omega arith; each = each [] read.pieces rest read.stand (omega arith) })
