-- What may follow a form, and what reading needs of it.
use Rattle.std.proofs.Common.{◌≡◌, ℕ, ◌≤◌, Bool, true, false, ◌||◌, ◌&&◌, List, [], ◌∷◌, ◌++◌, length, Option, Some, None, refl, sym, ap, ◌∙◌, arith, eqb}
use Rattle.std.proofs.lemmas.Bool.{or_parts, eqb-true, false_from_ne_true}
use Rattle.std.proofs.lemmas.List.{length-map}
use Rattle.rs_tree.specs.Kinds.{code}
use Rattle.rs_tree.specs.declared.kind.Kind.{Kind}
use Rattle.rs_tree.specs.declared.place.At.{At}
use Rattle.rs_grammar.specs.Lexeme.{Lexeme, moved, seen}
use Rattle.rs_grammar.specs.Sets.{nullable, first, more, next_in}
use Rattle.rs_grammar.specs.Fine.{Apart, IsFine}
use Rattle.rs_grammar.specs.Grammar.{Rule, Shape, Val, Grammar, Nt, rule, Matches, IsFront}
use Rattle.rs_grammar.proofs.Begins.{code_below, empty_match, first_match, first_front}

pub absurdly : {b : Bool} → b ≡ true → b ≡ false → ⊥
absurdly p q = let e : true ≡ false = sym p ∙ q in cc

pub none_some : {A : Type 0} {x : A} → None ≡ Some x → ⊥
none_some e = cc

pub some_pair : {A B : Type 0} {x y : A} {z w : B} → Some x ≡ Some y → Some z ≡ Some w → ◌≡◌ {A = Option (A × B)} (Some (x, z)) (Some (y, w))
some_pair {x} {y} {z} {w} p q = let e : x ≡ y = cc in let f : z ≡ w = cc in λ i. Some (e i, f i)

pub some_cons : {A : Type 0} {x y : A} {z w : List A} → Some x ≡ Some y → Some z ≡ Some w → Some (x ∷ z) ≡ Some (y ∷ w)
some_cons {x} {y} {z} {w} p q = let e : x ≡ y = cc in let f : z ≡ w = cc in λ i. Some (e i ∷ f i)

pub some_tail : {A B : Type 0} {x y : A} {p q : List A × B} → Some x ≡ Some y → Some p ≡ Some q → ◌≡◌ {A = Option (List A × B)} (Some (x ∷ p.0, p.1)) (Some (y ∷ q.0, q.1))
some_tail {x} {y} {p} {q} e f = let g : x ≡ y = cc in let h : p ≡ q = cc in λ i. Some (g i ∷ (h i).0, (h i).1)

pub some_ap : {A B : Type 0} {x y : A} (f : A → B) → Some x ≡ Some y → Some (f x) ≡ Some (f y)
some_ap {x} {y} f p = let e : x ≡ y = cc in ap (λ z. Some (f z)) e

pub and_true : {a b : Bool} → a ≡ true → (a && b) ≡ false → b ≡ false
and_true {a} {b} p q = let e : (a && b) ≡ b = ap (λ z. z && b) p in sym e ∙ q

pub fourth : (a b c n x y : Bool) → n ≡ true → (a || (b || (c || (n && (x || y))))) ≡ false → x ≡ false
fourth a b c n x y h e = (or_parts x y (and_true h (or_parts c _ (or_parts b _ (or_parts a _ e).1).1).1)).0

-- what is not in a set is not in a smaller one
pub weaken : (p q : ℕ → Bool) → ((k : ℕ) → p k ≡ false → q k ≡ false) → (b : List Lexeme) → next_in p b ≡ false → next_in q b ≡ false
weaken p q h [] e = refl
weaken p q h (t ∷ b) e = h (code t.kind) e

pub apart_next : (p q : ℕ → Bool) → Apart p q → (u : List Lexeme) → next_in p u ≡ true → next_in q u ≡ false
apart_next p q h [] e = refl
apart_next p q h (t ∷ b) e = h (code t.kind) (code_below t.kind) e

-- seen from a place, tokens keep their kinds
pub seen_next : (p : ℕ → Bool) (base : At) (u : List Lexeme) → next_in p (seen base u) ≡ next_in p u
seen_next p base [] = refl
seen_next p base (t ∷ u) = refl

pub seen_same : (base : At) (u v : List Lexeme) → seen base u ≡ seen base v → length u ≡ length v
seen_same base u v e = sym (length-map u (moved base)) ∙ ap length e ∙ length-map v (moved base)

pub same_kind : {s : Shape} (g : Grammar s) (c : Kind) → more g (code c) ≡ false → Apart (λ k. eqb k (code c)) (more g)
same_kind g c e k l h = ap (more g) (eqb-true _ _ h) ∙ e

module _ (fine : (n : Rule) → IsFine n) where
  -- what has a whole form at its front begins with a token that the form may begin with
  pub begins_with : {s : Shape} {g : Grammar s} {a u : List Lexeme} {x : Val s} → Matches s g a x → nullable g ≡ false → (b : List Lexeme) → u ≡ a ++ b → next_in (first g) u ≡ true
  begins_with {g} {a} {u} m e b z = go a refl
    where
      go : (c : List Lexeme) → a ≡ c → next_in (first g) u ≡ true
      go [] h = absurd (absurdly (empty_match fine m h) e)
      go (t ∷ r) h = ap (next_in (first g)) (z ∙ ap (λ w. w ++ b) h) ∙ first_match fine m h

  -- after a form that may be empty comes its first token or what follows it
  pub seam : {s : Shape} {h : Grammar s} {a : List Lexeme} {y : Val s} → Matches s h a y → (p : ℕ → Bool) → Apart (first h) p → (b : List Lexeme) → (nullable h ≡ true → next_in p b ≡ false) → next_in p (a ++ b) ≡ false
  seam {h} {a} m p apart b e = go a refl
    where
      go : (c : List Lexeme) → a ≡ c → next_in p (a ++ b) ≡ false
      go [] z = ap (λ w. next_in p (w ++ b)) z ∙ e (empty_match fine m z)
      go (t ∷ r) z = ap (λ w. next_in p (w ++ b)) z ∙ apart (code t.kind) (code_below t.kind) (first_match fine m z)

  -- a front that cannot begin here is empty
  pub stays : {s : Shape} {g : Grammar s} {a u : List Lexeme} → IsFront s g a → (q : List Lexeme) → u ≡ a ++ q → next_in (first g) u ≡ false → length u ≤ length q
  stays {g} {a} {u} m q z c = go a refl
    where
      go : (b : List Lexeme) → a ≡ b → length u ≤ length q
      go [] e = omega (arith, ap length (z ∙ ap (λ w. w ++ q) e))
      go (t ∷ r) e = absurd (absurdly (ap (next_in (first g)) (z ∙ ap (λ w. w ++ q) e) ∙ first_front fine m e) c)

  -- a front that begins with off token of a set is empty before one
  pub clashes : {s : Shape} {h : Grammar s} {a u : List Lexeme} → IsFront s h a → (p : ℕ → Bool) → Apart (first h) p → (q : List Lexeme) → u ≡ a ++ q → next_in p u ≡ true → length u ≤ length q
  clashes {h} {a} {u} m p apart q z c = go a refl
    where
      go : (b : List Lexeme) → a ≡ b → length u ≤ length q
      go [] e = omega (arith, ap length (z ∙ ap (λ w. w ++ q) e))
      go (t ∷ r) e = absurd (absurdly c (ap (next_in p) (z ∙ ap (λ w. w ++ q) e) ∙ apart (code t.kind) (code_below t.kind) (first_front fine m e)))

  -- what the table does not let go on does not go on
  pub narrow : (n : Rule) (b : List Lexeme) → next_in (more (Nt n)) b ≡ false → next_in (more (rule n)) b ≡ false
  narrow n [] e = refl
  narrow n (t ∷ b) e = false_from_ne_true _ (λ h. absurdly ((fine n).goes_on (code t.kind) (code_below t.kind) h) e)
