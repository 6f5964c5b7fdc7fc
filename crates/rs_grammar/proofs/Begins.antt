-- What a form begins with.
use Rattle.std.proofs.Common.{◌≡◌, ◌<◌, Bool, true, false, ◌&&◌, ◌⊎◌, inl, inr, List, [], ◌∷◌, ◌++◌, refl, sym, ap, ◌∙◌, eqb, eq-eqb, lit<}
use Rattle.std.proofs.lemmas.Bool.{or_left, or_right, and_from, eqb-true}
use Rattle.rs_tree.specs.Kinds.{code}
use Rattle.rs_tree.specs.declared.kind.Kind.{Kind}
use Rattle.rs_tree.specs.declared.kind.Kind.TheVariants as k
use Rattle.rs_tree.proofs.Codes.{code_injective}
use Rattle.rs_grammar.specs.Lexeme.{Lexeme, moved, seen}
use Rattle.rs_grammar.specs.Sets.{kinds, nullable, in_either, first, short, pair}
use Rattle.rs_grammar.specs.Fine.{IsFine}
use Rattle.rs_grammar.specs.Grammar.{Rule, Shape, Val, Pair, one, two, Grammar, Tok, Seq, Matches, IsFront, m-tok, m-empty, m-seq, m-left, m-right, m-none, m-some, m-stop, m-turn, m-tail_stop, m-tail_last, m-tail_turn, m-ahead, m-not_ahead, m-here, m-nt, f-none, f-tok, f-first, f-rest, f-left, f-right, f-some, f-turn, f-turns, f-tail_last, f-tail_turn, f-tail_turns, f-ahead, f-not_ahead, f-here, f-nt}

pub code_below : (c : Kind) → code c < kinds
unfolding code
code_below k.Name = lit< tt
code_below k.Number = lit< tt
code_below k.Text = lit< tt
code_below k.Reserved = lit< tt
code_below k.Bool = lit< tt
code_below k.Const = lit< tt
code_below k.Crate = lit< tt
code_below k.Else = lit< tt
code_below k.False = lit< tt
code_below k.Fn = lit< tt
code_below k.Int = lit< tt
code_below k.If = lit< tt
code_below k.Inline = lit< tt
code_below k.Let = lit< tt
code_below k.Mod = lit< tt
code_below k.Mut = lit< tt
code_below k.Println = lit< tt
code_below k.Pub = lit< tt
code_below k.Return = lit< tt
code_below k.True = lit< tt
code_below k.While = lit< tt
code_below k.LeftParen = lit< tt
code_below k.RightParen = lit< tt
code_below k.LeftBrace = lit< tt
code_below k.RightBrace = lit< tt
code_below k.LeftBracket = lit< tt
code_below k.RightBracket = lit< tt
code_below k.Hash = lit< tt
code_below k.Semicolon = lit< tt
code_below k.Comma = lit< tt
code_below k.Colon = lit< tt
code_below k.DoubleColon = lit< tt
code_below k.Arrow = lit< tt
code_below k.Assign = lit< tt
code_below k.Equal = lit< tt
code_below k.NotEqual = lit< tt
code_below k.Less = lit< tt
code_below k.Greater = lit< tt
code_below k.AtMost = lit< tt
code_below k.AtLeast = lit< tt
code_below k.Plus = lit< tt
code_below k.Minus = lit< tt
code_below k.Star = lit< tt
code_below k.Slash = lit< tt
code_below k.Percent = lit< tt
code_below k.Not = lit< tt
code_below k.And = lit< tt
code_below k.Or = lit< tt

pub same_code : {c : Kind} (t : Lexeme) → t.kind ≡ c → eqb (code t.kind) (code c) ≡ true
same_code t e = eq-eqb _ _ (ap code e)

pub same_kind_of : (c d : Kind) → eqb (code c) (code d) ≡ true → c ≡ d
same_kind_of c d e = code_injective c d (eqb-true _ _ e)

either_left : (n a b : Bool) → a ≡ true → in_either n a b ≡ true
either_left true a b e = or_left a b e
either_left false a b e = e

either_right : (n a b : Bool) → n ≡ true → b ≡ true → in_either n a b ≡ true
either_right true a b h e = or_right a b e
either_right false a b h e = absurd cc

no_cons : {A : Type 0} {t : A} {r : List A} → [] ≡ t ∷ r → ⊥
no_cons e = cc

-- where a list that two lists make begins
pub heads : {A : Type 0} {t : A} {r : List A} (a b : List A) → a ++ b ≡ t ∷ r → ((q : List A) × (a ≡ t ∷ q)) ⊎ ((a ≡ []) × (b ≡ t ∷ r))
heads [] b e = inr (refl, e)
heads {t} (x ∷ a) b e = let h : x ≡ t = cc in inl (a, ap (λ z. z ∷ a) h)

rest_of : {A : Type 0} {t : A} {a : List A} (q b : List A) → a ++ b ≡ t ∷ [] → a ≡ t ∷ q → q ++ b ≡ []
rest_of {t} q b z e = let h : t ∷ (q ++ b) ≡ t ∷ [] = ap (λ w. w ++ b) (sym e) ∙ z in cc

nothing_left : {A : Type 0} (a b : List A) → a ++ b ≡ [] → (a ≡ []) × (b ≡ [])
nothing_left [] b e = (refl, e)
nothing_left (x ∷ a) b e = absurd cc

-- where a list of two tokens or more that two lists make is cut
pub halves : {A : Type 0} {t v : A} {r : List A} (a b : List A) → a ++ b ≡ t ∷ v ∷ r → ((a ≡ []) × (b ≡ t ∷ v ∷ r)) ⊎ ((a ≡ t ∷ []) × (b ≡ v ∷ r)) ⊎ ((q : List A) × (a ≡ t ∷ v ∷ q))
halves [] b e = inl (refl, e)
halves {t} (x ∷ []) b e = let h : x ≡ t = cc in let g : b ≡ _ = cc in inr (inl (ap (λ z. z ∷ []) h, g))
halves {t} {v} (x ∷ y ∷ a) b e = let h : x ≡ t = cc in let g : y ≡ v = cc in inr (inr (a, λ i. h i ∷ g i ∷ a))

-- what two tokens at the front of two tokens and a form are
two_whole : {s : Shape} {g : Grammar s} {c d : Kind} {a r : List Lexeme} {t v : Lexeme} {x : _} → Matches _ (Seq (Tok c) (Seq (Tok d) g)) a x → a ≡ t ∷ v ∷ r → (t.kind ≡ c) × (v.kind ≡ d)
two_whole {t} {v} (m-seq (m-tok {t = y} e) (m-seq (m-tok {t = w} f) n)) z = let h : y ≡ t = cc in let i : w ≡ v = cc in (ap (λ (q : Lexeme). q.kind) (sym h) ∙ e, ap (λ (q : Lexeme). q.kind) (sym i) ∙ f)

two_front : {s : Shape} {g : Grammar s} {c d : Kind} {a r : List Lexeme} {t v : Lexeme} → IsFront _ (Seq (Tok c) (Seq (Tok d) g)) a → a ≡ t ∷ v ∷ r → (t.kind ≡ c) × (v.kind ≡ d)
two_front f-none z = absurd (no_cons z)
two_front (f-first f-none) z = absurd (no_cons z)
two_front (f-first (f-tok e)) z = absurd cc
two_front (f-rest (m-tok e) f-none) z = absurd cc
two_front (f-rest (m-tok e) (f-first f-none)) z = absurd cc
two_front {t} {v} (f-rest (m-tok {t = y} e) (f-first (f-tok {t = w} f))) z = let h : y ≡ t = cc in let i : w ≡ v = cc in (ap (λ (q : Lexeme). q.kind) (sym h) ∙ e, ap (λ (q : Lexeme). q.kind) (sym i) ∙ f)
two_front {t} {v} (f-rest (m-tok {t = y} e) (f-rest (m-tok {t = w} f) n)) z = let h : y ≡ t = cc in let i : w ≡ v = cc in (ap (λ (q : Lexeme). q.kind) (sym h) ∙ e, ap (λ (q : Lexeme). q.kind) (sym i) ∙ f)

both_same : (a b c d : Kind) (t v : Lexeme) → code t.kind ≡ code a → code v.kind ≡ code b → (t.kind ≡ c) × (v.kind ≡ d) → (eqb (code a) (code c) && eqb (code b) (code d)) ≡ true
both_same a b c d t v n o e = and_from _ _ (eq-eqb _ _ (sym n ∙ ap code e.0)) (eq-eqb _ _ (sym o ∙ ap code e.1))

module _ (fine : (n : Rule) → IsFine n) where
  pub empty_match : {s : Shape} {g : Grammar s} {a : List Lexeme} {x : Val s} → Matches s g a x → a ≡ [] → nullable g ≡ true
  empty_match (m-tok e) z = absurd cc
  empty_match m-empty z = refl
  empty_match (m-seq {a} {b} m n) z = let e = nothing_left a b z in and_from _ _ (empty_match m e.0) (empty_match n e.1)
  empty_match (m-left m) z = or_left _ _ (empty_match m z)
  empty_match (m-right m) z = or_right _ _ (empty_match m z)
  empty_match m-none z = refl
  empty_match (m-some m) z = refl
  empty_match m-stop z = refl
  empty_match (m-turn m n) z = refl
  empty_match m-tail_stop z = refl
  empty_match (m-tail_last e m) z = refl
  empty_match (m-tail_turn e m n) z = refl
  empty_match (m-ahead m) z = let e : true ≡ false = sym (empty_match m z) in absurd cc
  empty_match (m-not_ahead m) z = empty_match m z
  empty_match (m-here m) z = absurd (no_cons (sym z))
  empty_match (m-nt {n} m) z = (fine n).empties (empty_match m z)

  pub first_match : {s : Shape} {g : Grammar s} {a r : List Lexeme} {t : Lexeme} {x : Val s} → Matches s g a x → a ≡ t ∷ r → first g (code t.kind) ≡ true
  first_match {t} (m-tok {c} {t = d} e) z = let h : d ≡ t = cc in same_code t (ap (λ (z : Lexeme). z.kind) (sym h) ∙ e)
  first_match m-empty z = absurd (no_cons z)
  first_match (m-seq {a} {b} m n) z = elim (heads a b z) [ inl q ↦ either_left _ _ _ (first_match m q.1) | inr q ↦ either_right _ _ _ (empty_match m q.0) (first_match n q.1) ]
  first_match (m-left m) z = or_left _ _ (first_match m z)
  first_match (m-right m) z = or_right _ _ (first_match m z)
  first_match m-none z = absurd (no_cons z)
  first_match (m-some m) z = first_match m z
  first_match m-stop z = absurd (no_cons z)
  first_match (m-turn {a} {b} m n) z = elim (heads a b z) [ inl q ↦ first_match m q.1 | inr q ↦ first_match n q.1 ]
  first_match m-tail_stop z = absurd (no_cons z)
  first_match {t} (m-tail_last {d} e m) z = let h : d ≡ t = cc in same_code t (ap (λ (z : Lexeme). z.kind) (sym h) ∙ e)
  first_match {t} (m-tail_turn {d} e m n) z = let h : d ≡ t = cc in same_code t (ap (λ (z : Lexeme). z.kind) (sym h) ∙ e)
  first_match (m-ahead m) z = or_left _ _ (first_match m z)
  first_match (m-not_ahead m) z = or_right _ _ (first_match m z)
  first_match {t} (m-here {g} {t = d} m) z = let h : d ≡ t = cc in ap (λ (w : Lexeme). first g (code w.kind)) (sym h) ∙ first_match m refl
  first_match {t} (m-nt {n} m) z = (fine n).begins (code t.kind) (code_below t.kind) (first_match m z)

  pub first_front : {s : Shape} {g : Grammar s} {a r : List Lexeme} {t : Lexeme} → IsFront s g a → a ≡ t ∷ r → first g (code t.kind) ≡ true
  first_front f-none z = absurd (no_cons z)
  first_front {t} (f-tok {t = d} e) z = let h : d ≡ t = cc in same_code t (ap (λ (z : Lexeme). z.kind) (sym h) ∙ e)
  first_front (f-first m) z = either_left _ _ _ (first_front m z)
  first_front (f-rest {a} {b} m n) z = elim (heads a b z) [ inl q ↦ either_left _ _ _ (first_match m q.1) | inr q ↦ either_right _ _ _ (empty_match m q.0) (first_front n q.1) ]
  first_front (f-left m) z = or_left _ _ (first_front m z)
  first_front (f-right m) z = or_right _ _ (first_front m z)
  first_front (f-some m) z = first_front m z
  first_front (f-turn m) z = first_front m z
  first_front (f-turns {a} {b} m n) z = elim (heads a b z) [ inl q ↦ first_match m q.1 | inr q ↦ first_front n q.1 ]
  first_front {t} (f-tail_last {d} e m) z = let h : d ≡ t = cc in same_code t (ap (λ (z : Lexeme). z.kind) (sym h) ∙ e)
  first_front {t} (f-tail_turn {d} e m) z = let h : d ≡ t = cc in same_code t (ap (λ (z : Lexeme). z.kind) (sym h) ∙ e)
  first_front {t} (f-tail_turns {d} e m n) z = let h : d ≡ t = cc in same_code t (ap (λ (z : Lexeme). z.kind) (sym h) ∙ e)
  first_front (f-ahead m) z = or_left _ _ (first_front m z)
  first_front (f-not_ahead m) z = or_right _ _ (first_front m z)
  first_front {t} (f-here {g} {t = d} m) z = let h : d ≡ t = cc in ap (λ (w : Lexeme). first g (code w.kind)) (sym h) ∙ first_front m refl
  first_front {t} (f-nt {n} m) z = (fine n).begins (code t.kind) (code_below t.kind) (first_front m z)

  -- a form that may be one token is short
  pub short_match : {s : Shape} {g : Grammar s} {a : List Lexeme} {t : Lexeme} {x : Val s} → Matches s g a x → a ≡ t ∷ [] → short g ≡ true
  short_match (m-tok e) z = refl
  short_match m-empty z = absurd (no_cons z)
  short_match {t} (m-seq {a} {b} m n) z = elim (heads a b z) [
    | inl q ↦ let e = nothing_left q.0 b (rest_of q.0 b z q.1) in or_right _ _ (and_from _ _ (short_match m (q.1 ∙ ap (λ w. t ∷ w) e.0)) (empty_match n e.1))
    | inr q ↦ or_left _ _ (and_from _ _ (empty_match m q.0) (short_match n q.1))
  ]
  short_match (m-left m) z = or_left _ _ (short_match m z)
  short_match (m-right m) z = or_right _ _ (short_match m z)
  short_match m-none z = absurd (no_cons z)
  short_match (m-some m) z = short_match m z
  short_match m-stop z = absurd (no_cons z)
  short_match {t} (m-turn {a} {b} m n) z = elim (heads a b z) [
    | inl q ↦ let e = nothing_left q.0 b (rest_of q.0 b z q.1) in short_match m (q.1 ∙ ap (λ w. t ∷ w) e.0)
    | inr q ↦ short_match n q.1
  ]
  short_match m-tail_stop z = absurd (no_cons z)
  short_match (m-tail_last e m) z = or_right _ _ (empty_match m cc)
  short_match (m-tail_turn {a} {b} e m n) z = let h : a ++ b ≡ [] = cc in or_left _ _ (empty_match m (nothing_left a b h).0)
  short_match (m-ahead m) z = let e : true ≡ false = sym (short_match m z) in absurd cc
  short_match (m-not_ahead m) z = short_match m z
  short_match (m-here {t = d} m) z = short_match m (ap (seen d.at) z)
  short_match (m-nt {n} m) z = (fine n).shorts (short_match m z)

  module _ (p : Pair) where
    at_first : {s : Shape} {g : Grammar s} {a r : List Lexeme} {t : Lexeme} {x : Val s} → code t.kind ≡ code (one p) → Matches s g a x → a ≡ t ∷ r → first g (code (one p)) ≡ true
    at_first {g} n m z = sym (ap (first g) n) ∙ first_match m z

    at_second : {s : Shape} {g : Grammar s} {a r : List Lexeme} {v : Lexeme} {x : Val s} → code v.kind ≡ code (two p) → Matches s g a x → a ≡ v ∷ r → first g (code (two p)) ≡ true
    at_second {g} o m z = sym (ap (first g) o) ∙ first_match m z

    front_second : {s : Shape} {g : Grammar s} {a r : List Lexeme} {v : Lexeme} → code v.kind ≡ code (two p) → IsFront s g a → a ≡ v ∷ r → first g (code (two p)) ≡ true
    front_second {g} o m z = sym (ap (first g) o) ∙ first_front m z

    tail_pair : {c : Kind} {d t : Lexeme} → code t.kind ≡ code (one p) → d.kind ≡ c → d ≡ t → eqb (code (one p)) (code c) ≡ true
    tail_pair n e z = eq-eqb _ _ (sym n ∙ ap (λ (w : Lexeme). code w.kind) (sym z) ∙ ap code e)

    -- a form that begins with the pair may begin so
    pub pair_match : {s : Shape} {g : Grammar s} {a r : List Lexeme} {t v : Lexeme} {x : Val s} → code t.kind ≡ code (one p) → code v.kind ≡ code (two p) → Matches s g a x → a ≡ t ∷ v ∷ r → pair p g ≡ true
    pair_match i j (m-tok e) z = absurd cc
    pair_match i j m-empty z = absurd (no_cons z)
    pair_match i j (m-seq {a} {b} m n) z = elim (halves a b z) [
      | inl q ↦ or_right _ _ (or_right _ _ (and_from _ _ (empty_match m q.0) (pair_match i j n q.1)))
      | inr (inl q) ↦ or_right _ _ (or_left _ _ (and_from _ _ (at_first i m q.0) (at_second j n q.1)))
      | inr (inr q) ↦ or_left _ _ (pair_match i j m q.1)
    ]
    pair_match i j (m-left m) z = or_left _ _ (pair_match i j m z)
    pair_match i j (m-right m) z = or_right _ _ (pair_match i j m z)
    pair_match i j m-none z = absurd (no_cons z)
    pair_match i j (m-some m) z = pair_match i j m z
    pair_match i j m-stop z = absurd (no_cons z)
    pair_match i j (m-turn {a} {b} m n) z = elim (halves a b z) [
      | inl q ↦ pair_match i j n q.1
      | inr (inl q) ↦ or_right _ _ (and_from _ _ (at_first i m q.0) (at_second j n q.1))
      | inr (inr q) ↦ or_left _ _ (pair_match i j m q.1)
    ]
    pair_match i j m-tail_stop z = absurd (no_cons z)
    pair_match {t} i j (m-tail_last {d} e m) z = tail_pair {d = d} {t = t} i e cc
    pair_match {t} i j (m-tail_turn {d} e m n) z = tail_pair {d = d} {t = t} i e cc
    pair_match {t} {v} i j (m-ahead m) z = or_left _ _ (both_same _ _ _ _ t v i j (two_whole m z))
    pair_match i j (m-not_ahead m) z = or_right _ _ (pair_match i j m z)
    pair_match {t} {v} i j (m-here {t = d} m) z = pair_match {t = moved d.at t} {v = moved d.at v} i j m (ap (seen d.at) z)
    pair_match i j (m-nt {n} m) z = (fine n).pairs p (pair_match i j m z)

    pub pair_front : {s : Shape} {g : Grammar s} {a r : List Lexeme} {t v : Lexeme} → code t.kind ≡ code (one p) → code v.kind ≡ code (two p) → IsFront s g a → a ≡ t ∷ v ∷ r → pair p g ≡ true
    pair_front i j f-none z = absurd (no_cons z)
    pair_front i j (f-tok e) z = absurd cc
    pair_front i j (f-first m) z = or_left _ _ (pair_front i j m z)
    pair_front i j (f-rest {a} {b} m n) z = elim (halves a b z) [
      | inl q ↦ or_right _ _ (or_right _ _ (and_from _ _ (empty_match m q.0) (pair_front i j n q.1)))
      | inr (inl q) ↦ or_right _ _ (or_left _ _ (and_from _ _ (at_first i m q.0) (front_second j n q.1)))
      | inr (inr q) ↦ or_left _ _ (pair_match i j m q.1)
    ]
    pair_front i j (f-left m) z = or_left _ _ (pair_front i j m z)
    pair_front i j (f-right m) z = or_right _ _ (pair_front i j m z)
    pair_front i j (f-some m) z = pair_front i j m z
    pair_front i j (f-turn m) z = or_left _ _ (pair_front i j m z)
    pair_front i j (f-turns {a} {b} m n) z = elim (halves a b z) [
      | inl q ↦ pair_front i j n q.1
      | inr (inl q) ↦ or_right _ _ (and_from _ _ (at_first i m q.0) (front_second j n q.1))
      | inr (inr q) ↦ or_left _ _ (pair_match i j m q.1)
    ]
    pair_front {t} i j (f-tail_last {d} e m) z = tail_pair {d = d} {t = t} i e cc
    pair_front {t} i j (f-tail_turn {d} e m) z = tail_pair {d = d} {t = t} i e cc
    pair_front {t} i j (f-tail_turns {d} e m n) z = tail_pair {d = d} {t = t} i e cc
    pair_front {t} {v} i j (f-ahead m) z = or_left _ _ (both_same _ _ _ _ t v i j (two_front m z))
    pair_front i j (f-not_ahead m) z = or_right _ _ (pair_front i j m z)
    pair_front {t} {v} i j (f-here {t = d} m) z = pair_front {t = moved d.at t} {v = moved d.at v} i j m (ap (seen d.at) z)
    pair_front i j (f-nt {n} m) z = (fine n).pairs p (pair_front i j m z)
