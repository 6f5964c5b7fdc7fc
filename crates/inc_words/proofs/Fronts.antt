-- What stands first among words.
use Rattle.std.proofs.Common.{◌≡◌, ◌≢◌, inl, inr, ℕ, suc, ◌-◌, ◌≤◌, List, [], ◌∷◌, map, take, drop, length, get_or, codes, false, ◌==◌, sym, ap, ◌∙◌, arith, Bor}
use Rattle.std.proofs.Math.Seq.{take-length}
use Rattle.inc_words.specs.Words.{AreRefused, IsClean, IsLevel, IsSpelled, IsValue}
use Rattle.inc_words.specs.declared.words.Command.TheVariants.{Build, Clean}

-- where this word is first, the words are it and the others
pub fronted : (words : List (Bor (List ℕ))) (d : Bor (List ℕ)) (first : List ℕ) → 1 ≤ length words → (get_or words 0 d).now ≡ first
    → map (λ w. w.now) words ≡ first ∷ map (λ w. w.now) (take (length words - 1) (drop 1 words))
fronted [] d first long is = absurd (omega (arith, long))
fronted (w ∷ ws) d first long is =
    let n : suc (length ws) - 1 ≡ length ws = omega arith in
    (λ j. is j ∷ map (λ w. w.now) ws) ∙ sym (ap (λ vs. first ∷ map (λ w. w.now) vs) (ap (λ k. take k ws) n ∙ take-length ws))

-- words that are there have texts
pub some_texts : (words : List (Bor (List ℕ))) → false ≡ (length words == 0) → map (λ w. w.now) words ≢ []
some_texts [] is none = absurd cc
some_texts (w ∷ ws) is none = absurd cc

zero_is : IsValue (codes "0")
zero_is = record { some = omega arith; no_dash = λ is. absurd (omega (arith, is)) }

one_is : IsValue (codes "1")
one_is = record { some = omega arith; no_dash = λ is. absurd (omega (arith, is)) }

-- without the option, words that are there say no level
pub no_level : (words : List (List ℕ)) (level : ℕ) → words ≢ []
    → ((value : List ℕ) (rest : List (List ℕ)) → words ≡ codes "--level" ∷ value ∷ rest → IsValue value → ⊥) → IsLevel words level → ⊥
no_level words level some none is = elim is [
  | inl h ↦ some h.0
  | inr more ↦ elim more [
    | inl h ↦ none _ _ h.0 zero_is
    | inr h ↦ none _ _ h.0 one_is
  ]
]

-- Words that are spelled as a command with some values, and as it with others, end alike.
pub clean_rest : {words r0 r1 r2 rest : List (List ℕ)} {o p q a1 a2 b1 b2 : List ℕ} → words ≡ o ∷ r0 → r0 ≡ p ∷ a1 ∷ r1 → r1 ≡ q ∷ b1 ∷ r2
    → words ≡ o ∷ p ∷ a2 ∷ q ∷ b2 ∷ rest → rest ≡ r2
clean_rest e0 e1 e2 is = cc

pub build_rest : {words r0 r1 r2 r3 r4 rest : List (List ℕ)} {o p q s t k1 k2 a1 a2 b1 b2 c1 c2 : List ℕ} → words ≡ o ∷ r0 → r0 ≡ p ∷ k1 ∷ r1 → r1 ≡ q ∷ a1 ∷ r2
    → r2 ≡ s ∷ b1 ∷ r3 → r3 ≡ t ∷ c1 ∷ r4 → words ≡ o ∷ p ∷ k2 ∷ q ∷ a2 ∷ s ∷ b2 ∷ t ∷ c2 ∷ rest → rest ≡ r4
build_rest e0 e1 e2 e3 e4 is = cc

-- words that spell neither command are refused
pub neither : (words : List (List ℕ)) → ((krate root src image : List ℕ) (level : ℕ) → IsSpelled words krate root src image level → ⊥)
    → ((src image : List ℕ) (level : ℕ) → IsClean words src image level → ⊥) → AreRefused words
neither words build clean (Build krate compiler) places asks = build _ _ _ _ _ asks.build.words_are
neither words build clean (Clean compiler) places asks = clean _ _ _ asks.clean
