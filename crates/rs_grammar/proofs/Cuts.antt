-- What a front of a form begins with is a front of it.
use Rattle.std.proofs.Common.{◌≡◌, inl, inr, List, [], ◌∷◌, ◌++◌, refl, sym, ap, ◌∙◌, subst}
use Rattle.std.proofs.lemmas.List.{map-append}
use Rattle.rs_grammar.specs.Lexeme.{Lexeme, moved, seen}
use Rattle.rs_grammar.specs.Grammar.{Shape, Val, Grammar, Matches, IsFront, m-tok, m-empty, m-seq, m-left, m-right, m-none, m-some, m-stop, m-turn, m-tail_stop, m-tail_last, m-tail_turn, m-ahead, m-not_ahead, m-here, m-nt, f-none, f-tok, f-first, f-rest, f-left, f-right, f-some, f-turn, f-turns, f-tail_last, f-tail_turn, f-tail_turns, f-ahead, f-not_ahead, f-here, f-nt}
use Rattle.rs_grammar.proofs.Lists.{cons_same, cut_at, no_tokens, same_head, same_rest}

none_cut : {A : Type 0} (p c : List A) → [] ≡ p ++ c → p ≡ []
none_cut [] c z = refl
none_cut (x ∷ p) c z = absurd (no_tokens z)

empty_front : {s : Shape} {g : Grammar s} (p c : List Lexeme) → [] ≡ p ++ c → IsFront s g p
empty_front {s} {g} p c z = subst (IsFront s g) (sym (none_cut p c z)) f-none

same_front : {s : Shape} {g : Grammar s} {p q : List Lexeme} → p ≡ q → IsFront s g q → IsFront s g p
same_front {s} {g} e f = subst (IsFront s g) (sym e) f

kind_of_first : {c : _} {d t : Lexeme} {a p : List Lexeme} → d ∷ a ≡ t ∷ p → d.kind ≡ c → t.kind ≡ c
kind_of_first z e = ap (λ (w : Lexeme). w.kind) (sym (same_head z)) ∙ e

seen_cut : {t d : Lexeme} {a : List Lexeme} (p c : List Lexeme) → t ∷ a ≡ d ∷ (p ++ c) → seen t.at (t ∷ a) ≡ seen d.at (d ∷ p) ++ seen d.at c
seen_cut {t} {d} {a} p c z = ap (λ (w : Lexeme). seen w.at (t ∷ a)) (same_head z) ∙ ap (seen d.at) z ∙ map-append (moved d.at) (d ∷ p) c

-- what a whole form begins with
pub cut_match : {s : Shape} {g : Grammar s} {a : List Lexeme} {x : Val s} → Matches s g a x → (p c : List Lexeme) → a ≡ p ++ c → IsFront s g p
cut_match (m-tok e) [] c z = f-none
cut_match (m-tok e) (t ∷ p) c z = same_front (cons_same refl (none_cut p c (same_rest z))) (f-tok (kind_of_first z e))
cut_match m-empty p c z = empty_front p c z
cut_match (m-seq {a} {b} m n) p c z = elim (cut_at a b p c z) [
  | inl q ↦ f-first (cut_match m p q.0 q.1)
  | inr q ↦ same_front q.1 (f-rest m (cut_match n q.0 c q.2))
]
cut_match (m-left m) p c z = f-left (cut_match m p c z)
cut_match (m-right m) p c z = f-right (cut_match m p c z)
cut_match m-none p c z = empty_front p c z
cut_match (m-some m) p c z = f-some (cut_match m p c z)
cut_match m-stop p c z = empty_front p c z
cut_match (m-turn {a} {b} m n) p c z = elim (cut_at a b p c z) [
  | inl q ↦ f-turn (cut_match m p q.0 q.1)
  | inr q ↦ same_front q.1 (f-turns m (cut_match n q.0 c q.2))
]
cut_match m-tail_stop p c z = empty_front p c z
cut_match (m-tail_last e m) [] c z = f-none
cut_match (m-tail_last e m) (t ∷ p) c z = f-tail_last (kind_of_first z e) (cut_match m p c (same_rest z))
cut_match (m-tail_turn e m n) [] c z = f-none
cut_match (m-tail_turn {a} {b} e m n) (t ∷ p) c z = elim (cut_at a b p c (same_rest z)) [
  | inl q ↦ f-tail_turn (kind_of_first z e) (cut_match m p q.0 q.1)
  | inr q ↦ same_front (cons_same refl q.1) (f-tail_turns (kind_of_first z e) m (cut_match n q.0 c q.2))
]
cut_match (m-ahead m) p c z = f-ahead (cut_match m p c z)
cut_match (m-not_ahead m) p c z = f-not_ahead (cut_match m p c z)
cut_match (m-here m) [] c z = f-none
cut_match (m-here m) (d ∷ p) c z = f-here (cut_match m (seen d.at (d ∷ p)) (seen d.at c) (seen_cut p c z))
cut_match (m-nt m) p c z = f-nt (cut_match m p c z)

-- what a front begins with
pub cut_front : {s : Shape} {g : Grammar s} {a : List Lexeme} → IsFront s g a → (p c : List Lexeme) → a ≡ p ++ c → IsFront s g p
cut_front f-none p c z = empty_front p c z
cut_front (f-tok e) [] c z = f-none
cut_front (f-tok e) (t ∷ p) c z = same_front (cons_same refl (none_cut p c (same_rest z))) (f-tok (kind_of_first z e))
cut_front (f-first m) p c z = f-first (cut_front m p c z)
cut_front (f-rest {a} {b} m n) p c z = elim (cut_at a b p c z) [
  | inl q ↦ f-first (cut_match m p q.0 q.1)
  | inr q ↦ same_front q.1 (f-rest m (cut_front n q.0 c q.2))
]
cut_front (f-left m) p c z = f-left (cut_front m p c z)
cut_front (f-right m) p c z = f-right (cut_front m p c z)
cut_front (f-some m) p c z = f-some (cut_front m p c z)
cut_front (f-turn m) p c z = f-turn (cut_front m p c z)
cut_front (f-turns {a} {b} m n) p c z = elim (cut_at a b p c z) [
  | inl q ↦ f-turn (cut_match m p q.0 q.1)
  | inr q ↦ same_front q.1 (f-turns m (cut_front n q.0 c q.2))
]
cut_front (f-tail_last e m) [] c z = f-none
cut_front (f-tail_last e m) (t ∷ p) c z = f-tail_last (kind_of_first z e) (cut_front m p c (same_rest z))
cut_front (f-tail_turn e m) [] c z = f-none
cut_front (f-tail_turn e m) (t ∷ p) c z = f-tail_turn (kind_of_first z e) (cut_front m p c (same_rest z))
cut_front (f-tail_turns e m n) [] c z = f-none
cut_front (f-tail_turns {a} {b} e m n) (t ∷ p) c z = elim (cut_at a b p c (same_rest z)) [
  | inl q ↦ f-tail_turn (kind_of_first z e) (cut_match m p q.0 q.1)
  | inr q ↦ same_front (cons_same refl q.1) (f-tail_turns (kind_of_first z e) m (cut_front n q.0 c q.2))
]
cut_front (f-ahead m) p c z = f-ahead (cut_front m p c z)
cut_front (f-not_ahead m) p c z = f-not_ahead (cut_front m p c z)
cut_front (f-here m) [] c z = f-none
cut_front (f-here m) (d ∷ p) c z = f-here (cut_front m (seen d.at (d ∷ p)) (seen d.at c) (seen_cut p c z))
cut_front (f-nt m) p c z = f-nt (cut_front m p c z)
