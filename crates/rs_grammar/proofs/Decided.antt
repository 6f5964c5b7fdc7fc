-- Tokens have one tree or one first fault.
use Rattle.std.proofs.Common.{◌≡◌, ℕ, ◌<◌, ◌⊎◌, inl, inr, List, [], ◌∷◌, ◌++◌, refl, sym, ap, ◌∙◌, subst, arith, append_assoc, append-nil}
use Rattle.std.proofs.lemmas.List.{append_cancel_left}
use Rattle.rs_tree.specs.declared.place.At.{At}
use Rattle.rs_tree.specs.declared.token.Token.{Token}
use Rattle.rs_tree.specs.declared.tree.Crate.{Crate}
use Rattle.rs_grammar.specs.declared.fault.SyntaxFault.{SyntaxFault}
use Rattle.rs_grammar.specs.declared.fault.SyntaxFault.TheVariants as fault
use Rattle.rs_grammar.specs.declared.named.Named.{Named}
use Rattle.rs_grammar.specs.Lexeme.{Lexeme}
use Rattle.rs_grammar.specs.Nesting.{depth, IsShallow, IsTooDeep}
use Rattle.rs_grammar.specs.Twice.{IsTwice, IsFirstTwice}
use Rattle.rs_grammar.specs.Correct.{crate_of, names_of, rest_place, HasTree, IsSyntaxFault, IsNameTwice, IsSyntaxRefusal}
use Rattle.rs_grammar.proofs.Lists.{cut_at}
use Rattle.rs_grammar.proofs.Answer.{fits_no_fault, one_fault}

-- The first element at which something goes wrong is one.
meets : {A : Type 0} (Bad : List A → A → Type 0) (a r b s : List A) (t u : A) → a ++ t ∷ r ≡ b ++ u ∷ s
    → ((p q : List A) (x : A) → a ≡ p ++ x ∷ q → Bad p x → ⊥) → ((p q : List A) (x : A) → b ≡ p ++ x ∷ q → Bad p x → ⊥) → Bad a t → Bad b u → (a ≡ b) × (t ≡ u)
meets {A} Bad a r b s t u e fine_a fine_b bad_a bad_b = elim (cut_at a (t ∷ r) b (u ∷ s) e) [
  | inl z ↦ longer z.0 z.1 z.2
  | inr z ↦ shorter z.0 z.1 z.2
]
  where
    longer : (q : List A) → a ≡ b ++ q → u ∷ s ≡ q ++ t ∷ r → (a ≡ b) × (t ≡ u)
    longer [] f g = let h : u ≡ t = cc in (f ∙ append-nil b, sym h)
    longer (x ∷ q) f g = let h : u ≡ x = cc in absurd (fine_a b q x f (subst (λ (y : A). Bad b y) h bad_b))

    shorter : (q : List A) → b ≡ a ++ q → t ∷ r ≡ q ++ u ∷ s → (a ≡ b) × (t ≡ u)
    shorter [] f g = let h : t ≡ u = cc in (sym (f ∙ append-nil a), h)
    shorter (x ∷ q) f g = let h : t ≡ x = cc in absurd (fine_b a q x f (subst (λ (y : A). Bad a y) h bad_a))

abbrev Deep : List Lexeme → Lexeme → Type 0
Deep p x = 64 < depth (p ++ x ∷ [])

no_deeper : (a : List Lexeme) → IsShallow a → (p q : List Lexeme) (x : Lexeme) → a ≡ p ++ x ∷ q → Deep p x → ⊥
no_deeper a calm p q x e d = omega (arith, calm (p ++ x ∷ []) q (e ∙ sym (append_assoc p (x ∷ []) q)), d)

not_shallow : {ts : List Lexeme} {at : At} → IsTooDeep ts at → IsShallow ts → ⊥
not_shallow d calm = no_deeper _ calm d.before d.rest d.bracket d.parts d.deep

one_nesting : {ts : List Lexeme} {at to : At} → IsTooDeep ts at → IsTooDeep ts to → at ≡ to
one_nesting x y =
    let m = meets Deep x.before x.rest y.before y.rest x.bracket y.bracket (sym x.parts ∙ y.parts) (no_deeper x.before x.shallow) (no_deeper y.before y.shallow) x.deep y.deep in
    x.place ∙ ap (λ (t : Lexeme). t.at) m.1 ∙ sym y.place

one_syntax : {ts : List Token} {end at to : At} → IsSyntaxFault ts end at → IsSyntaxFault ts end to → at ≡ to
one_syntax {end} x y =
    let b : x.before ≡ y.before = one_fault x.rest y.rest x.parts x.fault y.parts y.fault in
    let r : x.rest ≡ y.rest = append_cancel_left x.before x.rest y.rest (sym x.parts ∙ y.parts ∙ ap (λ l. l ++ y.rest) (sym b)) in
    x.place ∙ ap (rest_place end) r ∙ sym y.place

one_name : {ns : List Named} {m n : Named} → IsFirstTwice ns m → IsFirstTwice ns n → m ≡ n
one_name {m} {n} x y = (meets IsTwice x.before x.rest y.before y.rest m n (sym x.parts ∙ y.parts) (λ p q z e t. x.once p z q e t) (λ p q z e t. y.once p z q e t) x.twice y.twice).1

twice_same : {ts : List Token} {at to : At} {name other : List ℕ} → IsNameTwice ts at name → IsNameTwice ts to other → fault.Twice at name ≡ fault.Twice to other
twice_same x y =
    let p : x.sections ≡ y.sections = y.only x.sections x.fit in
    let a = x.twice in
    let b = y.twice in
    let n : a.named ≡ b.named = one_name a.first (subst (λ l. IsFirstTwice (names_of l) b.named) (sym p) b.first) in
    (λ i. fault.Twice ((a.place ∙ ap (λ (d : Named). d.at) n ∙ sym b.place) i) ((a.text ∙ ap (λ (d : Named). d.name) n ∙ sym b.text) i))

pub one_tree : (ts : List Token) (a b : Crate) → HasTree ts a → HasTree ts b → a ≡ b
one_tree ts a b x y = x.makes ∙ ap crate_of (y.only x.sections x.fit) ∙ sym y.makes

pub tree_faultless : (ts : List Token) (end : At) (a : Crate) (f : SyntaxFault) → HasTree ts a → IsSyntaxRefusal ts end f → f ≡ fault.Memory
tree_faultless ts end a (fault.Nesting at) x y = absurd (not_shallow y x.shallow)
tree_faultless ts end a (fault.Syntax at) x y = absurd (fits_no_fault x.fit y.before y.rest y.parts y.fault)
tree_faultless ts end a (fault.Twice at name) x y =
    let d = y.twice in absurd (x.once d.first.before d.named d.first.rest (ap names_of (sym (x.only y.sections y.fit)) ∙ d.first.parts) d.first.twice)
tree_faultless ts end a fault.Memory x y = refl

pub one_refusal : (ts : List Token) (end : At) (a b : SyntaxFault) → IsSyntaxRefusal ts end a → IsSyntaxRefusal ts end b → (a ≡ b) ⊎ (a ≡ fault.Memory) ⊎ (b ≡ fault.Memory)
one_refusal ts end fault.Memory b x y = inr (inl refl)
one_refusal ts end (fault.Nesting at) fault.Memory x y = inr (inr refl)
one_refusal ts end (fault.Nesting at) (fault.Nesting to) x y = inl (ap fault.Nesting (one_nesting x y))
one_refusal ts end (fault.Nesting at) (fault.Syntax to) x y = absurd (not_shallow x y.shallow)
one_refusal ts end (fault.Nesting at) (fault.Twice to name) x y = absurd (not_shallow x y.shallow)
one_refusal ts end (fault.Syntax at) fault.Memory x y = inr (inr refl)
one_refusal ts end (fault.Syntax at) (fault.Nesting to) x y = absurd (not_shallow y x.shallow)
one_refusal ts end (fault.Syntax at) (fault.Syntax to) x y = inl (ap fault.Syntax (one_syntax x y))
one_refusal ts end (fault.Syntax at) (fault.Twice to name) x y = absurd (fits_no_fault y.fit x.before x.rest x.parts x.fault)
one_refusal ts end (fault.Twice at name) fault.Memory x y = inr (inr refl)
one_refusal ts end (fault.Twice at name) (fault.Nesting to) x y = absurd (not_shallow y x.shallow)
one_refusal ts end (fault.Twice at name) (fault.Syntax to) x y = absurd (fits_no_fault x.fit y.before y.rest y.parts y.fault)
one_refusal ts end (fault.Twice at name) (fault.Twice to other) x y = inl (twice_same x y)
