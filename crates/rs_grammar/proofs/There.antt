-- Every list of tokens has a tree, or a fault.
use Rattle.std.proofs.Common.{◌≡◌, ◌≤◌, ◌⊎◌, Bool, true, false, inl, inr, List, [], ◌∷◌, ◌++◌, Option, Some, None, refl, sym, subst, append_assoc, append-nil, ltb}
use Rattle.std.proofs.lemmas.Bool.{ltb-true, ltb-false}
use Rattle.rs_tree.specs.declared.place.At.{At}
use Rattle.rs_tree.specs.declared.token.Token.{Token}
use Rattle.rs_tree.specs.declared.tree.Crate.{Crate}
use Rattle.rs_grammar.specs.declared.fault.SyntaxFault.{SyntaxFault}
use Rattle.rs_grammar.specs.declared.fault.SyntaxFault.TheVariants as f
use Rattle.rs_grammar.specs.declared.named.Named.{Named}
use Rattle.rs_grammar.specs.Lexeme.{Lexeme, lexemes}
use Rattle.rs_grammar.specs.Grammar.{Section, Rep, Nt, Text, Part}
use Rattle.rs_grammar.specs.Parses.{Parses}
use Rattle.rs_grammar.specs.Nesting.{depth, IsShallow, IsTooDeep}
use Rattle.rs_grammar.specs.Twice.{key, AllOnce, IsFirstTwice}
use Rattle.rs_grammar.specs.Correct.{crate_of, names_of, rest_place, HasTree, IsSyntaxRefusal}
use Rattle.rs_grammar.specs.There.{AnswersAreThere}
use Rattle.rs_grammar.proofs.Names.{none_once, seen_by, once_more, twice_from_seen}
use Rattle.rs_grammar.proofs.Depths.{shallow_more, nothing_shallow}
use Rattle.rs_grammar.proofs.Answer.{sections_fit, sections_only, fault_within, fault_after}
use Rattle.rs_grammar.proofs.Fine.{fine}
use Rattle.rs_grammar.proofs.Total.{total}

nested : (before rest : List Lexeme) → IsShallow before → IsShallow (before ++ rest) ⊎ ((at : At) × IsTooDeep (before ++ rest) at)
nested before [] calm = inl (subst (λ (w : List Lexeme). IsShallow w) (sym (append-nil before)) calm)
nested before (t ∷ rest) calm = go (λ h. nested (before ++ t ∷ []) rest (shallow_more before t calm h)) (ltb 64 (depth (before ++ t ∷ []))) refl
  where
    go : (depth (before ++ t ∷ []) ≤ 64 → IsShallow ((before ++ t ∷ []) ++ rest) ⊎ ((at : At) × IsTooDeep ((before ++ t ∷ []) ++ rest) at))
        → (b : Bool) → ltb 64 (depth (before ++ t ∷ [])) ≡ b → IsShallow (before ++ t ∷ rest) ⊎ ((at : At) × IsTooDeep (before ++ t ∷ rest) at)
    go next true e = inr (t.at, record { before = before; bracket = t; rest = rest; parts = refl; shallow = calm; deep = ltb-true _ _ e; place = refl })
    go next false e = subst (λ (w : List Lexeme). IsShallow w ⊎ ((at : At) × IsTooDeep w at)) (append_assoc before (t ∷ []) rest) (next (ltb-false _ _ e))

named : (before rest : List Named) → AllOnce before → AllOnce (before ++ rest) ⊎ ((d : Named) × IsFirstTwice (before ++ rest) d)
named before [] once = inl (subst (λ (w : List Named). AllOnce w) (sym (append-nil before)) once)
named before (d ∷ rest) once = go (λ e. named (before ++ d ∷ []) rest (once_more before d once e)) (seen_by (key d) before) refl
  where
    go : (seen_by (key d) before ≡ false → AllOnce ((before ++ d ∷ []) ++ rest) ⊎ ((c : Named) × IsFirstTwice ((before ++ d ∷ []) ++ rest) c))
        → (b : Bool) → seen_by (key d) before ≡ b → AllOnce (before ++ d ∷ rest) ⊎ ((c : Named) × IsFirstTwice (before ++ d ∷ rest) c)
    go next true e = inr (d, record { before = before; rest = rest; parts = refl; twice = twice_from_seen d before e; once = once })
    go next false e = subst (λ (w : List Named). AllOnce w ⊎ ((c : Named) × IsFirstTwice w c)) (append_assoc before (d ∷ []) rest) (next e)

module _ (tokens : List Token) (end : At) (calm : IsShallow (lexemes tokens)) where
  abbrev Answer : Type 0
  Answer = ((tree : Crate) × HasTree tokens tree) ⊎ ((fault : SyntaxFault) × IsSyntaxRefusal tokens end fault × (fault ≡ f.Memory → ⊥))

  read_all : (o : Option (List Section)) (v : List Lexeme) → Parses _ (Rep (Nt Part)) (lexemes tokens) o v → Answer
  read_all None v r =
      let z = fault_within r in
      inr (f.Syntax (rest_place end v), record { shallow = calm; before = z.0; rest = v; parts = z.1; fault = z.2; place = refl }, λ e. cc)
  read_all (Some x) (t ∷ v) r =
      let z = fault_after r in
      inr (f.Syntax (rest_place end (t ∷ v)), record { shallow = calm; before = z.0; rest = t ∷ v; parts = z.1; fault = z.2; place = refl }, λ e. cc)
  read_all (Some x) [] r = elim (named [] (names_of x) none_once) [
    | inl once ↦ inl (crate_of x, record { shallow = calm; sections = x; fit = sections_fit r; only = λ others m. sections_only r m; once = once; makes = refl })
    | inr d ↦ inr (f.Twice d.0.at d.0.name, record { shallow = calm; sections = x; fit = sections_fit r; only = λ others m. sections_only r m; twice = record { named = d.0; first = d.1; place = refl; text = refl } }, λ e. cc)
  ]

pub answers_are_there : AnswersAreThere
answers_are_there tokens end = elim (nested [] (lexemes tokens) nothing_shallow) [
  | inl calm ↦ (let p = total (Rep (Nt Part)) (lexemes tokens) (fine Text).parts in read_all tokens end calm p.result p.rest p.reads)
  | inr d ↦ inr (f.Nesting d.0, d.1, λ e. cc)
]
