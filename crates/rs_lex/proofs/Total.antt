-- Each text has tokens or a first fault, piece by piece.
use Rattle.std.proofs.Common.{◌≡◌, ℕ, zero, suc, ◌≤◌, ◌⊎◌, inl, inr, List, [], ◌∷◌, length, drop, Option, Some, None, refl, sym, ap, arith}
use Rattle.std.proofs.lemmas.List.{length-drop}
use Rattle.std.specs.Option.{option_map}
use Rattle.rs_tree.specs.declared.place.At.{At}
use Rattle.rs_tree.specs.declared.token.Token.{Token}
use Rattle.rs_lex.specs.Pieces.{Piece}
use Rattle.rs_lex.specs.Scan.{piece_at}
use Rattle.rs_lex.specs.Steps.{measured}
use Rattle.rs_lex.specs.Tokens.{HasTokens, HasFault}
use Rattle.rs_lex.specs.Answered.{TextsAreAnswered, OneAnswer}
use Rattle.rs_lex.proofs.Texts.{IsRead, nothing_read, step_of, read_whole, read_stuck}

module _ (text : List ℕ) where
  abbrev Answer : Type 0
  Answer = ((tokens : List Token) × HasTokens text tokens) ⊎ ((at : At) × HasFault text at)

  -- what is left is read in as many steps as it has bytes, or fewer
  on : (fuel : ℕ) (rest : List ℕ) (tokens : List Token) (at : At) → length rest ≤ fuel → IsRead text rest tokens at → Answer
  on fuel [] tokens at few read = inl (tokens, read_whole text [] tokens at read refl)
  on zero (b ∷ bs) tokens at few read = absurd (omega (arith, few))
  on (suc fuel) (b ∷ bs) tokens at few read = go (on fuel) (piece_at (b ∷ bs)) refl
    where
      go : ((rest : List ℕ) (tokens : List Token) (at : At) → length rest ≤ fuel → IsRead text rest tokens at → Answer) → (found : Option Piece) → piece_at (b ∷ bs) ≡ found → Answer
      go later None is = inr (at, read_stuck text (b ∷ bs) tokens at read (λ e. absurd cc) (sym (ap (option_map measured) is)))
      go later (Some piece) is =
          let step = step_of text (b ∷ bs) tokens at piece read is in
          later (drop (measured piece).length (b ∷ bs)) _ _ (omega (arith, few, step.some, step.within, length-drop (measured piece).length (b ∷ bs))) step.read

pub texts_are_answered : TextsAreAnswered
texts_are_answered text = on text (length text) text [] (record { line = 1; column = 1 }) (omega arith) (nothing_read text)

pub one_answer : OneAnswer
one_answer = record {
  tokens = λ text a b one two. sym (one.only b two.are);
  faultless = λ text tokens at one two. two.tokenless tokens one.are;
  fault = λ text a b one two. sym (one.only b two.is);
}
