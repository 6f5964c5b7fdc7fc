-- What was read of a whole text: the sections that fit it, or its first fault.
use Rattle.std.proofs.Common.{◌≡◌, inl, inr, List, [], ◌∷◌, ◌++◌, Option, Some, None, refl, sym, ◌∙◌, append_assoc, append-nil, subst, arith}
use Rattle.rs_grammar.specs.Lexeme.{Lexeme}
use Rattle.rs_grammar.specs.Grammar.{Section, IsFront, Nt, Rep, Text, Part}
use Rattle.rs_grammar.specs.Parses.{Parses, r-nt, r-no_nt}
use Rattle.rs_grammar.specs.Correct.{FitsCrate, IsFault}
use Rattle.rs_grammar.proofs.Soundness.{read_matches, read_front, whole}
use Rattle.rs_grammar.proofs.Lists.{cut_at}
use Rattle.rs_grammar.proofs.Cuts.{cut_match, cut_front}
use Rattle.rs_grammar.proofs.Exact.{reads_whole, through}
use Rattle.rs_grammar.proofs.Fine.{fine}

-- the first fault of a list of tokens, before its last ones
abbrev pub FaultAt : List Lexeme → List Lexeme → Type 0
FaultAt u v = (before : List Lexeme) × (u ≡ before ++ v) × IsFault before v

abbrev text : (u v : List Lexeme) (x : List Section) → Parses _ (Rep (Nt Part)) u (Some x) v → Parses _ (Nt Text) u (Some x) v
text u v x r = r-nt {n = Text} r

abbrev no_text : (u v : List Lexeme) → Parses _ (Rep (Nt Part)) u None v → Parses _ (Nt Text) u None v
no_text u v r = r-no_nt {n = Text} r

pub sections_fit : {u : List Lexeme} {x : List Section} → Parses _ (Rep (Nt Part)) u (Some x) [] → FitsCrate u x
sections_fit {u} {x} r = let m = read_matches (text u [] x r) in subst (λ (w : List Lexeme). FitsCrate w x) (sym (m.1 ∙ append-nil m.0)) m.2

-- what is read to the end is the only thing that fits
pub sections_only : {u : List Lexeme} {x y : List Section} → Parses _ (Rep (Nt Part)) u (Some x) [] → FitsCrate u y → y ≡ x
sections_only {u} {x} {y} r m = let i = reads_whole fine (text u [] x r) tt m [] (sym (append-nil u)) refl in let e : x ≡ y = cc in sym e

-- the token at which reading stopped ends every front
not_through : {u v : List Lexeme} {t : Lexeme} {o : Option (List Section)} (a : List Lexeme) → Parses _ (Nt Text) u o (t ∷ v) → u ≡ a ++ t ∷ v → IsFront _ (Nt Text) (a ++ t ∷ []) → ⊥
not_through {v} {t} a r e f = let l = through fine r tt f v (e ∙ sym (append_assoc a (t ∷ []) v)) in absurd (omega arith)

pub fault_within : {u v : List Lexeme} → Parses _ (Rep (Nt Part)) u None v → FaultAt u v
fault_within {u} {v} p = let m = read_front (no_text u v p) in (m.0, m.1, go v (no_text u v p) m.0 m.1 m.2)
  where
    go : (v : List Lexeme) → Parses _ (Nt Text) u None v → (a : List Lexeme) → u ≡ a ++ v → IsFront _ (Nt Text) a → IsFault a v
    go (t ∷ v) r a e f = (f, not_through a r e)
    go [] r a e f = (f, λ y m. let i = reads_whole fine r tt m [] e refl in let h : None ≡ Some y = i.0 in absurd cc)

pub fault_after : {u v : List Lexeme} {t : Lexeme} {x : List Section} → Parses _ (Rep (Nt Part)) u (Some x) (t ∷ v) → FaultAt u (t ∷ v)
fault_after {u} {v} {t} {x} p = let r = text u (t ∷ v) x p in let m = read_matches r in (m.0, m.1, (whole m.2, not_through m.0 r m.1))

-- a text that sections fit has no fault
pub fits_no_fault : {u : List Lexeme} {x : List Section} → FitsCrate u x → (before rest : List Lexeme) → u ≡ before ++ rest → IsFault before rest → ⊥
fits_no_fault {x} m before [] e f = f.1 x (subst (λ (w : List Lexeme). FitsCrate w x) (e ∙ append-nil before) m)
fits_no_fault m before (t ∷ rest) e f = f.1 (cut_match m (before ++ t ∷ []) rest (e ∙ sym (append_assoc before (t ∷ []) rest)))

-- a text has one fault
fault_front : {before : List Lexeme} (rest : List Lexeme) → IsFault before rest → IsFront _ (Nt Text) before
fault_front [] f = f.0
fault_front (t ∷ rest) f = f.0

no_later : {a : List Lexeme} (r v b q : List Lexeme) → a ≡ b ++ q → v ≡ q ++ r → IsFault a r → IsFault b v → a ≡ b
no_later r v b [] e z f g = e ∙ append-nil b
no_later {a} r v b (t ∷ q) e z f g =
    let h = subst (IsFault b) z g in
    absurd (h.1 (cut_front (fault_front r f) (b ++ t ∷ []) q (e ∙ sym (append_assoc b (t ∷ []) q))))

pub one_fault : {u a b : List Lexeme} (r v : List Lexeme) → u ≡ a ++ r → IsFault a r → u ≡ b ++ v → IsFault b v → a ≡ b
one_fault {a} {b} r v y f z g = elim (cut_at a r b v (sym y ∙ z)) [
  | inl q ↦ no_later r v b q.0 q.1 q.2 f g
  | inr q ↦ sym (no_later v r a q.0 q.1 q.2 g f)
]
