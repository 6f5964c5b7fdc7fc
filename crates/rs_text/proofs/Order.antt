-- The tokens of a text stand in the order of their places.
use Rattle.std.proofs.Common.{◌≡◌, ℕ, ◌+◌, ◌<◌, ◌⊎◌, Bool, true, false, if◌then◌else◌, inl, inr, List, [], ◌∷◌, ◌++◌, length, refl, sym, ap, ◌∙◌, subst, append_assoc, append-nil, arith}
use Rattle.rs_tree.specs.declared.place.At.{At}
use Rattle.rs_tree.specs.declared.token.Token.{Token}
use Rattle.rs_lex.specs.Pieces as p
use Rattle.rs_lex.specs.Pieces.{Piece}
use Rattle.rs_lex.specs.Places.{is_line_feed, place_of, place_after}
use Rattle.rs_lex.specs.Tokens.{AllStand, HasTokens, joined, tokens_in}
use Rattle.rs_lex.proofs.PlaceSteps.{place_after_is}
use Rattle.rs_lex.proofs.Ranges.{some_bytes}
use Rattle.rs_grammar.specs.Lexed.{IsBefore, IsNotAfter, first_or, Ascend, AreTokens, IsLexed}
use Rattle.rs_text.specs.Laws.{TokensAreLexed}

before_both : {a b c : At} → IsBefore a b → IsBefore b c → IsBefore a c
before_both (inl x) (inl y) = inl (omega (arith, x, y))
before_both (inl x) (inr y) = inl (omega (arith, x, y.0))
before_both (inr x) (inl y) = inl (omega (arith, x.0, y))
before_both (inr x) (inr y) = inr (omega (arith, x.0, y.0), omega (arith, x.1, y.1))

before_then : {a b c : At} → IsBefore a b → IsNotAfter b c → IsBefore a c
before_then {a} x (inl e) = subst (IsBefore a) e x
before_then x (inr y) = before_both x y

then_not_after : {a b c : At} → IsNotAfter a b → IsNotAfter b c → IsNotAfter a c
then_not_after {c} (inl e) y = subst (λ (w : At). IsNotAfter w c) (sym e) y
then_not_after (inr x) y = inr (before_then x y)

-- one byte further
step : (at : At) (b : Bool) → IsBefore at (if b then record { line = at.line + 1; column = 1 } else record { line = at.line; column = at.column + 1 })
step at true = inl (omega arith)
step at false = inr (refl, omega arith)

further : (at : At) (b : ℕ) (bs : List ℕ) → IsBefore at (place_after at (b ∷ bs))
further at b [] = step at (is_line_feed b)
further at b (c ∷ bs) = before_both (step at (is_line_feed b)) (further (if is_line_feed b then record { line = at.line + 1; column = 1 } else record { line = at.line; column = at.column + 1 }) c bs)

-- a text goes on at a later place
goes_on : (before text : List ℕ) → 0 < length text → IsBefore (place_of before) (place_of (before ++ text))
goes_on before [] h = absurd (omega (arith, h))
goes_on before (b ∷ bs) h = subst (IsBefore (place_of before)) (place_after_is before (b ∷ bs)) (further (place_of before) b bs)

module _ (end : At) where
  first_later : (before : List ℕ) (pieces : List Piece) (rest : List ℕ) → AllStand pieces rest → end ≡ place_of (before ++ joined pieces) → IsNotAfter (place_of before) (first_or end (tokens_in before pieces))
  first_later before [] rest s e = inl (ap place_of (sym (append-nil before)) ∙ sym e)
  first_later before (p.Token text ∷ pieces) rest s e = inl refl
  first_later before (p.Comment text ∷ pieces) rest s e =
      then_not_after (inr (goes_on before text (some_bytes (p.Comment text) _ s.0))) (first_later (before ++ text) pieces rest s.1 (e ∙ ap place_of (sym (append_assoc before text (joined pieces)))))
  first_later before (p.Blank b ∷ pieces) rest s e =
      then_not_after (inr (goes_on before (b ∷ []) (omega arith))) (first_later (before ++ b ∷ []) pieces rest s.1 (e ∙ ap place_of (sym (append_assoc before (b ∷ []) (joined pieces)))))

  ascend : (before : List ℕ) (pieces : List Piece) (rest : List ℕ) → AllStand pieces rest → end ≡ place_of (before ++ joined pieces) → Ascend end (tokens_in before pieces)
  ascend before [] rest s e = tt
  ascend before (p.Token text ∷ pieces) rest s e =
      let f = e ∙ ap place_of (sym (append_assoc before text (joined pieces))) in
      (before_then (goes_on before text (some_bytes (p.Token text) _ s.0)) (first_later (before ++ text) pieces rest s.1 f), ascend (before ++ text) pieces rest s.1 f)
  ascend before (p.Comment text ∷ pieces) rest s e = ascend (before ++ text) pieces rest s.1 (e ∙ ap place_of (sym (append_assoc before text (joined pieces))))
  ascend before (p.Blank b ∷ pieces) rest s e = ascend (before ++ b ∷ []) pieces rest s.1 (e ∙ ap place_of (sym (append_assoc before (b ∷ []) (joined pieces))))

are_tokens : (before : List ℕ) (pieces : List Piece) (rest : List ℕ) → AllStand pieces rest → AreTokens (tokens_in before pieces)
are_tokens before [] rest s = tt
are_tokens before (p.Token text ∷ pieces) rest s = (s.0.kind, are_tokens (before ++ text) pieces rest s.1)
are_tokens before (p.Comment text ∷ pieces) rest s = are_tokens (before ++ text) pieces rest s.1
are_tokens before (p.Blank b ∷ pieces) rest s = are_tokens (before ++ b ∷ []) pieces rest s.1

pub tokens_are_lexed : TokensAreLexed
tokens_are_lexed bytes tokens h =
    let t = h.are in
    record {
      texts = subst AreTokens (sym t.gives) (are_tokens [] t.pieces [] t.stand);
      places = subst (Ascend (place_of bytes)) (sym t.gives) (ascend (place_of bytes) [] t.pieces [] t.stand (ap place_of t.joins));
    }
