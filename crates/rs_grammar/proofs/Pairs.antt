-- What two tokens settle.
use Rattle.std.proofs.Common.{◌≡◌, ◌≤◌, true, false, ◌⊎◌, inl, inr, List, [], ◌∷◌, ◌++◌, length, refl, sym, ap, ◌∙◌, arith, eq-eqb}
use Rattle.std.proofs.lemmas.Bool.{and_from, and_parts, or_right, eqb-true}
use Rattle.rs_tree.specs.Kinds.{code}
use Rattle.rs_grammar.specs.Lexeme.{Lexeme}
use Rattle.rs_grammar.specs.Sets.{nullable, more, pair, next_in, next_pair}
use Rattle.rs_grammar.specs.Fine.{Fine, IsFine}
use Rattle.rs_grammar.specs.Grammar.{Rule, Shape, lexeme, both, Val, Pair, one, two, Grammar, Tok, Seq, Ahead, Matches, IsFront, m-tok, m-seq, f-none, f-tok, f-first, f-rest}
use Rattle.rs_grammar.proofs.Begins.{empty_match, short_match, pair_match, pair_front}
use Rattle.rs_grammar.proofs.Seams.{absurdly}

-- nothing, or a token that may begin the pair
abbrev pub AtMostOne : Pair → List Lexeme → Type 0
AtMostOne p a = (a ≡ []) ⊎ ((t : Lexeme) × (code t.kind ≡ code (one p)) × (a ≡ t ∷ []))

-- what the next two tokens are
pair_is : (p : Pair) (t v : Lexeme) (u : List Lexeme) → next_pair p (t ∷ v ∷ u) ≡ true → (code t.kind ≡ code (one p)) × (code v.kind ≡ code (two p))
pair_is p t v u e = let q = and_parts _ _ e in (eqb-true _ _ q.0, eqb-true _ _ q.1)

pair_so : (p : Pair) (t v : Lexeme) (u : List Lexeme) → t.kind ≡ one p → v.kind ≡ two p → next_pair p (t ∷ v ∷ u) ≡ true
pair_so p t v u e f = and_from _ _ (eq-eqb _ _ (ap code e)) (eq-eqb _ _ (ap code f))

abbrev pub Left : {s : Shape} → Pair → Grammar s → Grammar (both lexeme (both lexeme s))
Left p g = Seq (Tok (one p)) (Seq (Tok (two p)) g)

pub fine_left : {s : Shape} (p : Pair) (g : Grammar s) → Fine g → Fine (Left p g)
fine_left p g f = (λ n l e. refl, tt, (λ n l e. refl, tt, f))

pub begins_left : {s : Shape} {g : Grammar s} {a : List Lexeme} {x : _} (p : Pair) → Matches _ (Left p g) a x → (b : List Lexeme) → next_pair p (a ++ b) ≡ true
begins_left p (m-seq (m-tok {t} e) (m-seq {b = r} (m-tok {t = v} f) n)) b = pair_so p t v (r ++ b) e f

pub short_left : {s : Shape} {g : Grammar s} {a : List Lexeme} (p : Pair) → IsFront _ (Left p g) a → (q : List Lexeme) → next_pair p (a ++ q) ≡ false → AtMostOne p a
short_left p f-none q e = inl refl
short_left p (f-first f-none) q e = inl refl
short_left p (f-first (f-tok {t} h)) q e = inr (t, ap code h, refl)
short_left p (f-rest (m-tok {t} h) f-none) q e = inr (t, ap code h, refl)
short_left p (f-rest (m-tok {t} h) (f-first f-none)) q e = inr (t, ap code h, refl)
short_left p (f-rest (m-tok {t} h) (f-first (f-tok {t = v} i))) q e = absurd (absurdly (pair_so p t v q h i) e)
short_left p (f-rest (m-tok {t} h) (f-rest {b} (m-tok {t = v} i) m)) q e = absurd (absurdly (pair_so p t v (b ++ q) h i) e)

-- a front of nothing or of one token
pub at_most_one : {a u q : List Lexeme} (p : Pair) (v : List Lexeme) → AtMostOne p a → u ≡ a ++ q → length v ≤ length u → ((t : Lexeme) → code t.kind ≡ code (one p) → u ≡ t ∷ q → length v ≤ length q) → length v ≤ length q
at_most_one {a} {u} {q} p v (inl e) z l f = omega (arith, l, ap length (z ∙ ap (λ x. x ++ q) e))
at_most_one {a} {u} {q} p v (inr i) z l f = f i.0 i.1 (z ∙ ap (λ x. x ++ q) i.2)

module _ (fine : (n : Rule) → IsFine n) where
  -- what begins with the pair is not of the other form
  pub not_other : {s t : Shape} (p : Pair) (g : Grammar s) (h : Grammar t) {a u : List Lexeme} {y : Val t} → Matches t h a y → nullable h ≡ false → pair p h ≡ false → (b : List Lexeme) → u ≡ a ++ b → next_pair p u ≡ true
      → next_in (more (Ahead p g h)) b ≡ false → ⊥
  not_other p g h {a} {u} m e r b z c stop = go a refl
    where
      go : (w : List Lexeme) → a ≡ w → ⊥
      go [] i = absurdly (empty_match fine m i) e
      go (t ∷ []) i = last b (sym (ap (next_pair p) (z ∙ ap (λ x. x ++ b) i)) ∙ c) stop
        where
          last : (b : List Lexeme) → next_pair p (t ∷ b) ≡ true → next_in (more (Ahead p g h)) b ≡ false → ⊥
          last [] j k = absurdly j refl
          last (v ∷ b) j k = absurdly (or_right _ _ (or_right _ _ (and_from _ _ (short_match fine m i) (eq-eqb _ _ (pair_is p t v b j).1)))) k
      go (t ∷ v ∷ w) i = let j = pair_is p t v (w ++ b) (sym (ap (next_pair p) (z ∙ ap (λ x. x ++ b) i)) ∙ c) in absurdly (pair_match fine p j.0 j.1 m i) r

  -- a front of the other form there is at most one token
  pub short_other : {t : Shape} {h : Grammar t} {a u : List Lexeme} (p : Pair) → IsFront t h a → pair p h ≡ false → (q : List Lexeme) → u ≡ a ++ q → next_pair p u ≡ true → AtMostOne p a
  short_other {h} {a} {u} p m r q z c = go a refl
    where
      go : (w : List Lexeme) → a ≡ w → AtMostOne p a
      go [] i = inl i
      go (t ∷ []) i = only q (sym (ap (next_pair p) (z ∙ ap (λ x. x ++ q) i)) ∙ c)
        where
          only : (b : List Lexeme) → next_pair p (t ∷ b) ≡ true → AtMostOne p a
          only [] j = absurd (absurdly j refl)
          only (v ∷ b) j = inr (t, (pair_is p t v b j).0, i)
      go (t ∷ v ∷ w) i = let j = pair_is p t v (w ++ q) (sym (ap (next_pair p) (z ∙ ap (λ x. x ++ q) i)) ∙ c) in absurd (absurdly (pair_front fine p j.0 j.1 m i) r)
