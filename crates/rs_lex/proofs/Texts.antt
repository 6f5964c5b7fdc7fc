-- A text, read piece by piece.
use Rattle.std.proofs.Common.{◌≡◌, ◌≢◌, ℕ, ◌+◌, ◌<◌, ◌≤◌, false, List, [], ◌∷◌, ◌++◌, length, take, drop, Some, None, refl, sym, ap, subst, ◌∙◌, arith, append_assoc, append-nil, length-append}
use Rattle.std.specs.Prelude.{Option, Result, Ok, Err, OnOk, is_err, not}
use Rattle.std.specs.Option.{option_map}
use Rattle.std.proofs.lemmas.List.Sums.{count_by-le-length, suffix_len-le-length}
use Rattle.std.proofs.Math.Seq.{drop-append_seam}
use Rattle.rs_tree.specs.declared.place.At.{At}
use Rattle.rs_tree.specs.declared.token.Token.{Token}
use Rattle.rs_lex.specs.declared.step.Step.{Step}
use Rattle.rs_lex.specs.Pieces as p
use Rattle.rs_lex.specs.Pieces.{Piece, Stands, spelling}
use Rattle.rs_lex.specs.Places.{is_line_feed, place_after, place_of}
use Rattle.rs_lex.specs.Scan.{piece_at}
use Rattle.rs_lex.specs.Steps.{added, measured}
use Rattle.rs_lex.specs.Tokens.{AllStand, HasFault, HasTokens, IsFirstFault, IsStuck, IsTokens, joined, tokens_in}
use Rattle.rs_lex.proofs.Found.{piece_at-found, piece_at-is}
use Rattle.rs_lex.proofs.Fronts.{front_within, take_front}
use Rattle.rs_lex.proofs.PlaceSteps.{place_after_is}

joined_push : (pieces : List Piece) (piece : Piece) → joined (pieces ++ piece ∷ []) ≡ joined pieces ++ spelling piece
joined_push [] piece = append-nil (spelling piece)
joined_push (q ∷ pieces) piece = ap (λ later. spelling q ++ later) (joined_push pieces piece) ∙ sym (append_assoc (spelling q) (joined pieces) (spelling piece))

stand_push : (pieces : List Piece) (piece : Piece) (after : List ℕ) → AllStand pieces (spelling piece ++ after) → Stands piece after → AllStand (pieces ++ piece ∷ []) after
stand_push [] piece after before stands = (stands, tt)
stand_push (q ∷ pieces) piece after before stands = (
  subst (Stands q) (sym (append_assoc (joined pieces) (spelling piece) after) ∙ ap (λ front. front ++ after) (sym (joined_push pieces piece))) before.0,
  stand_push pieces piece after before.1 stands,
)

tokens_push : (before : List ℕ) (pieces : List Piece) (piece : Piece) → tokens_in before (pieces ++ piece ∷ []) ≡ tokens_in before pieces ++ tokens_in (before ++ joined pieces) (piece ∷ [])
tokens_push before [] piece = ap (λ front. tokens_in front (piece ∷ [])) (sym (append-nil before))
tokens_push before (p.Token text ∷ pieces) piece =
    ap (λ later. record { at = place_of before; text = text } ∷ later) (tokens_push (before ++ text) pieces piece ∙ ap (λ front. tokens_in (before ++ text) pieces ++ tokens_in front (piece ∷ [])) (append_assoc before text (joined pieces)))
tokens_push before (p.Comment text ∷ pieces) piece =
    tokens_push (before ++ text) pieces piece ∙ ap (λ front. tokens_in (before ++ text) pieces ++ tokens_in front (piece ∷ [])) (append_assoc before text (joined pieces))
tokens_push before (p.Blank byte ∷ pieces) piece =
    tokens_push (before ++ byte ∷ []) pieces piece ∙ ap (λ front. tokens_in (before ++ byte ∷ []) pieces ++ tokens_in front (piece ∷ [])) (append_assoc before (byte ∷ []) (joined pieces))

-- the text is read up to `rest`, with these tokens, and `at` is the place there
pub record IsRead (text rest : List ℕ) (tokens : List Token) (at : At) : Type 0 where
  pub pieces : List Piece
  pub joins : text ≡ joined pieces ++ rest
  pub stand : AllStand pieces rest
  pub gives : tokens ≡ tokens_in [] pieces
  pub place : at ≡ place_of (joined pieces)

pub nothing_read : (text : List ℕ) → IsRead text text [] (record { line = 1; column = 1 })
nothing_read text = record { pieces = []; joins = refl; stand = tt; gives = refl; place = refl }

measured_length : (piece : Piece) → (measured piece).length ≡ length (spelling piece)
measured_length (p.Blank byte) = refl
measured_length (p.Comment text) = refl
measured_length (p.Token text) = refl

measured_token : (before : List ℕ) (piece : Piece) → tokens_in before (piece ∷ []) ≡ added (measured piece).token (place_of before) (spelling piece)
measured_token before (p.Blank byte) = refl
measured_token before (p.Comment text) = refl
measured_token before (p.Token text) = refl

read_piece : (text rest : List ℕ) (tokens : List Token) (at : At) (piece : Piece) → IsRead text rest tokens at → piece_at rest ≡ Some piece →
    IsRead text (drop (length (spelling piece)) rest) (tokens ++ added (measured piece).token at (spelling piece)) (place_after at (spelling piece))
read_piece text rest tokens at piece read is =
    let found = piece_at-found rest piece is in
    let after = drop (length (spelling piece)) rest in
    record {
      pieces = read.pieces ++ piece ∷ [];
      joins =
          read.joins ∙ ap (λ later. joined read.pieces ++ later) found.split ∙ sym (append_assoc (joined read.pieces) (spelling piece) after)
          ∙ ap (λ front. front ++ after) (sym (joined_push read.pieces piece));
      stand = stand_push read.pieces piece after (subst (AllStand read.pieces) found.split read.stand) found.stands;
      gives =
          ap (λ front. front ++ added (measured piece).token at (spelling piece)) read.gives
          ∙ ap (λ place. tokens_in [] read.pieces ++ added (measured piece).token place (spelling piece)) read.place
          ∙ ap (λ later. tokens_in [] read.pieces ++ later) (sym (measured_token (joined read.pieces) piece))
          ∙ sym (tokens_push [] read.pieces piece);
      place =
          ap (λ place. place_after place (spelling piece)) read.place ∙ place_after_is (joined read.pieces) (spelling piece)
          ∙ ap place_of (sym (joined_push read.pieces piece));
    }

-- what one step of the scanner does
pub record IsStep (text rest : List ℕ) (tokens : List Token) (at : At) (step : Step) : Type 0 where
  pub some : 0 < step.length
  pub within : step.length ≤ length rest
  pub read : IsRead text (drop step.length rest) (tokens ++ added step.token at (take step.length rest)) (place_after at (take step.length rest))

pub step_of : (text rest : List ℕ) (tokens : List Token) (at : At) (piece : Piece) → IsRead text rest tokens at → piece_at rest ≡ Some piece → IsStep text rest tokens at (measured piece)
step_of text rest tokens at piece read is =
    let found = piece_at-found rest piece is in
    let front : take (length (spelling piece)) rest ≡ spelling piece = take_front rest (spelling piece) (drop (length (spelling piece)) rest) found.split in
    let long = measured_length piece in
    record {
      some = rw long found.some;
      within = rw long (front_within rest (spelling piece) (drop (length (spelling piece)) rest) found.split);
      read = rw (long, front) (read_piece text rest tokens at piece read is);
    }

step_cases : (text rest : List ℕ) (tokens : List Token) (at : At) (step : Step) (found : Option Piece) → piece_at rest ≡ found → Some step ≡ option_map measured found → IsRead text rest tokens at → IsStep text rest tokens at step
step_cases text rest tokens at step None is same read = absurd (cc)
step_cases text rest tokens at step (Some piece) is same read =
    let e : step ≡ measured piece = cc in
    rw e (step_of text rest tokens at piece read is)

pub step_read : (text rest : List ℕ) (tokens : List Token) (at : At) (step : Step) → Some step ≡ option_map measured (piece_at rest) → IsRead text rest tokens at → IsStep text rest tokens at step
step_read text rest tokens at step same read = step_cases text rest tokens at step _ refl same read

-- the place is within the text's length
pub record IsNear (text rest : List ℕ) (at : At) : Type 0 where
  pub line : at.line + length rest ≤ length text + 1
  pub column : at.column + length rest ≤ length text + 1

pub read_near : (text rest : List ℕ) (tokens : List Token) (at : At) → IsRead text rest tokens at → IsNear text rest at
read_near text rest tokens at read =
    let lines = count_by-le-length is_line_feed (joined read.pieces) in
    let columns = suffix_len-le-length (λ b. not (is_line_feed b)) (joined read.pieces) in
    let whole : length text ≡ length (joined read.pieces) + length rest = ap length read.joins ∙ length-append (joined read.pieces) rest in
    record {
      line = rw read.place (omega (arith, lines, whole));
      column = rw read.place (omega (arith, columns, whole));
    }

-- the ends

no_piece : (piece : Option Piece) → None ≡ option_map measured piece → piece ≡ None
no_piece None is = refl
no_piece (Some piece) is = absurd (cc)

pub stuck_of : (rest : List ℕ) → rest ≢ [] → piece_at rest ≡ None → IsStuck rest
stuck_of rest some is = record {
  some = some;
  none = λ piece after split stands. (let found = piece_at-is rest piece after split stands in cc);
}

none_stuck : (rest : List ℕ) → IsStuck rest → (found : Option Piece) → piece_at rest ≡ found → piece_at rest ≡ None
none_stuck rest stuck None is = is
none_stuck rest stuck (Some piece) is = let found = piece_at-found rest piece is in absurd (stuck.none piece (drop (length (spelling piece)) rest) found.split found.stands)

pub record SamePieces (left right : List Piece) (rest others : List ℕ) : Type 0 where
  pub pieces : left ≡ right
  pub rests : rest ≡ others

after_spelling : (piece : Piece) (left right : List ℕ) → spelling piece ++ left ≡ spelling piece ++ right → left ≡ right
after_spelling piece left right same = sym (drop-append_seam (spelling piece) left) ∙ ap (drop (length (spelling piece))) same ∙ drop-append_seam (spelling piece) right

pub same_pieces : (left right : List Piece) (rest others : List ℕ) → joined left ++ rest ≡ joined right ++ others → AllStand left rest → AllStand right others → piece_at rest ≡ None → piece_at others ≡ None → SamePieces left right rest others
same_pieces [] [] rest others same sl sr nl nr = record { pieces = refl; rests = same }
same_pieces [] (q ∷ right) rest others same sl sr nl nr =
    let found = piece_at-is rest q (joined right ++ others) (same ∙ append_assoc (spelling q) (joined right) others) sr.0 in absurd (cc)
same_pieces (q ∷ left) [] rest others same sl sr nl nr =
    let found = piece_at-is others q (joined left ++ rest) (sym same ∙ append_assoc (spelling q) (joined left) rest) sl.0 in absurd (cc)
same_pieces (q ∷ left) (r ∷ right) rest others same sl sr nl nr =
    let whole = joined (q ∷ left) ++ rest in
    let first : piece_at whole ≡ Some q = piece_at-is whole q (joined left ++ rest) (append_assoc (spelling q) (joined left) rest) sl.0 in
    let second : piece_at whole ≡ Some r = piece_at-is whole r (joined right ++ others) (same ∙ append_assoc (spelling r) (joined right) others) sr.0 in
    let e : r ≡ q = cc in
    let later : spelling q ++ (joined left ++ rest) ≡ spelling q ++ (joined right ++ others) =
    sym (append_assoc (spelling q) (joined left) rest) ∙ same ∙ append_assoc (spelling r) (joined right) others ∙ ap (λ piece. spelling piece ++ (joined right ++ others)) e in
    let more = same_pieces left right rest others (after_spelling q (joined left ++ rest) (joined right ++ others) later) sl.1 sr.1 nl nr in
    record { pieces = ap (λ pieces. q ∷ pieces) more.pieces ∙ ap (λ piece. piece ∷ right) (sym e); rests = more.rests }

tokens_are : (text : List ℕ) (tokens others : List Token) → IsTokens text tokens → IsTokens text others → others ≡ tokens
tokens_are text tokens others one two =
    let same = same_pieces one.pieces two.pieces [] [] (append-nil (joined one.pieces) ∙ sym one.joins ∙ two.joins ∙ sym (append-nil (joined two.pieces))) one.stand two.stand refl refl in
    two.gives ∙ ap (tokens_in []) (sym same.pieces) ∙ sym one.gives

tokens_or_fault : (text : List ℕ) (tokens : List Token) (at : At) → IsTokens text tokens → IsFirstFault text at → ⊥
tokens_or_fault text tokens at one fault =
    let same = same_pieces one.pieces fault.pieces [] fault.rest (append-nil (joined one.pieces) ∙ sym one.joins ∙ fault.joins) one.stand fault.stand refl (none_stuck fault.rest fault.stuck _ refl) in
    fault.stuck.some (sym same.rests)

faults_are : (text : List ℕ) (at other : At) → IsFirstFault text at → IsFirstFault text other → other ≡ at
faults_are text at other one two =
    let same = same_pieces one.pieces two.pieces one.rest two.rest (sym one.joins ∙ two.joins) one.stand two.stand (none_stuck one.rest one.stuck _ refl) (none_stuck two.rest two.stuck _ refl) in
    two.place ∙ ap (λ pieces. place_of (joined pieces)) (sym same.pieces) ∙ sym one.place

pub tokens_whole : (text : List ℕ) (tokens : List Token) → IsTokens text tokens → HasTokens text tokens
tokens_whole text tokens are = record {
  are = are;
  only = λ others them. tokens_are text tokens others are them;
  faultless = λ at fault. tokens_or_fault text tokens at are fault;
}

pub fault_whole : (text : List ℕ) (at : At) → IsFirstFault text at → HasFault text at
fault_whole text at is = record {
  is = is;
  only = λ other fault. faults_are text at other is fault;
  tokenless = λ tokens are. tokens_or_fault text tokens at are is;
}

pub read_whole : (text rest : List ℕ) (tokens : List Token) (at : At) → IsRead text rest tokens at → rest ≡ [] → HasTokens text tokens
read_whole text rest tokens at read end = tokens_whole text tokens (record {
  pieces = read.pieces;
  joins = read.joins ∙ ap (λ later. joined read.pieces ++ later) end ∙ append-nil (joined read.pieces);
  stand = subst (AllStand read.pieces) end read.stand;
  gives = read.gives;
})

pub read_stuck : (text rest : List ℕ) (tokens : List Token) (at : At) → IsRead text rest tokens at → rest ≢ [] → None ≡ option_map measured (piece_at rest) → HasFault text at
read_stuck text rest tokens at read some is = fault_whole text at (record {
  pieces = read.pieces;
  rest = rest;
  joins = read.joins;
  stand = read.stand;
  stuck = stuck_of rest some (no_piece (piece_at rest) is);
  place = read.place;
})

-- what a call that is no `Err` keeps
pub kept : {T E : Type 0} (r : Result T E) (P : Type 0) → is_err r ≡ false → OnOk r P → P
kept (Ok x) P fine holds = holds
kept (Err e) P fine holds = absurd (cc)

pub left_some : (rest : List ℕ) → length rest ≢ 0 → rest ≢ []
left_some rest some none = some (ap length none)
