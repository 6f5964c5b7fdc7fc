-- How deep brackets nest in the fronts of a list of tokens.
use Rattle.std.proofs.Common.{◌≡◌, ℕ, ◌≤◌, ◌⊎◌, inl, inr, List, [], ◌∷◌, ◌++◌, sym, refl, ◌∙◌, subst, arith, append-nil}
use Rattle.rs_grammar.specs.Lexeme.{Lexeme}
use Rattle.rs_grammar.specs.Nesting.{open_after, open_from, depth, IsShallow}
use Rattle.rs_grammar.proofs.Lists.{cut}

pub open_append : (n : ℕ) (a b : List Lexeme) → open_from n (a ++ b) ≡ open_from (open_from n a) b
open_append n [] b = refl
open_append n (t ∷ a) b = open_append (open_after n t.kind) a b

-- one more token
pub depth_more : (a : List Lexeme) (t : Lexeme) → depth (a ++ t ∷ []) ≡ open_after (depth a) t.kind
depth_more a t = open_append 0 a (t ∷ [])

-- the fronts of a list with one more
ends : (before rest : List Lexeme) (a : List Lexeme) (t : Lexeme) → a ++ t ∷ [] ≡ before ++ rest → (before ≡ a ++ t ∷ []) ⊎ ((more : List Lexeme) × (a ≡ before ++ more))
ends before [] a t e = inl (sym (append-nil before) ∙ sym e)
ends before (y ∷ rest) a t e = elim (cut a t before y rest e) [ inl p ↦ inr ([], sym p.0 ∙ sym (append-nil before)) | inr p ↦ inr (y ∷ p.0, p.1) ]

pub shallow_more : (a : List Lexeme) (t : Lexeme) → IsShallow a → depth (a ++ t ∷ []) ≤ 64 → IsShallow (a ++ t ∷ [])
shallow_more a t calm h before rest e = elim (ends before rest a t e) [ inl p ↦ subst (λ (w : List Lexeme). depth w ≤ 64) (sym p) h | inr p ↦ calm before p.0 p.1 ]

pub nothing_shallow : IsShallow []
nothing_shallow [] rest e = omega arith
nothing_shallow (t ∷ before) rest e = absurd cc
