-- What a whole text was read as.
use Rattle.std.proofs.Common.{◌≡◌, ℕ, List, [], ◌∷◌, ◌++◌, map, Some, None, Ok, Err, unwrap_or, sym, ap, ◌∙◌, subst, append_assoc, append-nil}
use Rattle.rs_tree.specs.declared.place.At.{At}
use Rattle.rs_tree.specs.declared.token.Token.{Token}
use Rattle.rs_reader.specs.declared.fault.Fault.{Fault}
use Rattle.rs_reader.specs.declared.fault.Fault.TheVariants as fault
use Rattle.rs_parse.specs.declared.part.Building.{Building}
use Rattle.rs_grammar.specs.Lexeme.{Lexeme, lexemes, next_place}
use Rattle.rs_grammar.specs.declared.sited.Sited.{Sited}
use Rattle.rs_grammar.specs.Grammar.{Section, Module, Alone, Nt, Rep, Part}
use Rattle.rs_grammar.specs.Parses.{Parses}
use Rattle.rs_parse.specs.Building.{Adding, with_item, with_items, with_name, with_sections}
use Rattle.rs_grammar.specs.Nesting.{IsShallow}
use Rattle.rs_grammar.specs.Correct.{placed_in, name_in, modules_of, items_of, names_of, IsSyntaxFault, IsSyntaxRefusal}
use Rattle.rs_grammar.specs.declared.fault.SyntaxFault.{SyntaxFault}
use Rattle.rs_grammar.specs.declared.fault.SyntaxFault.TheVariants as refusal
use Rattle.rs_reader.specs.Ends.{IsFinished}
use Rattle.rs_parse.specs.Whole.{HasSections}
use Rattle.rs_grammar.proofs.Lists.{some_same}
use Rattle.rs_grammar.proofs.Answer.{sections_fit, sections_only, fault_within, fault_after}

items_added : (name : List ℕ) (b : Building) (ss : List Sited) → with_items name b ss ≡ record { modules = b.modules; items = b.items ++ map (placed_in name) ss; names = b.names ++ map (name_in name) ss }
items_added name b [] = λ i. record { modules = b.modules; items = sym (append-nil b.items) i; names = sym (append-nil b.names) i }
items_added name b (s ∷ ss) =
    items_added name (with_item name b s) ss
    ∙ (λ i. record { modules = b.modules; items = append_assoc b.items (placed_in name s ∷ []) (map (placed_in name) ss) i; names = append_assoc b.names (name_in name s ∷ []) (map (name_in name) ss) i })

pub sections_added : (b : Building) (ps : List Section) → with_sections b ps ≡ record { modules = b.modules ++ modules_of ps; items = b.items ++ items_of ps; names = b.names ++ names_of ps }
sections_added b [] = λ i. record { modules = sym (append-nil b.modules) i; items = sym (append-nil b.items) i; names = sym (append-nil b.names) i }
sections_added b (Module at name ss ∷ ps) =
    sections_added (with_items name (with_name b at name) ss) ps
    ∙ ap (λ (c : Building). record { modules = c.modules ++ modules_of ps; items = c.items ++ items_of ps; names = c.names ++ names_of ps }) (items_added name (with_name b at name) ss)
    ∙ (λ i. record {
      modules = append_assoc b.modules (name ∷ []) (modules_of ps) i;
      items = append_assoc b.items (map (placed_in name) ss) (items_of ps) i;
      names = (append_assoc (b.names ++ record { at = at; «module» = None; name = name } ∷ []) (map (name_in name) ss) (names_of ps) ∙ append_assoc b.names (record { at = at; «module» = None; name = name } ∷ []) (map (name_in name) ss ++ names_of ps)) i;
    })
sections_added b (Alone s ∷ ps) =
    sections_added (with_item [] b s) ps
    ∙ (λ i. record { modules = b.modules ++ modules_of ps; items = append_assoc b.items (placed_in [] s ∷ []) (items_of ps) i; names = append_assoc b.names (name_in [] s ∷ []) (names_of ps) i })

module _ (ts : List Token) (u v : List Lexeme) (start : u ≡ lexemes ts) (before after : Building) where
  pub has_sections : before ≡ record { modules = []; items = []; names = [] } → v ≡ [] → Adding (Rep (Nt Part)) with_sections u (Ok tt) v before after → HasSections ts after
  has_sections empty e a =
      let x = a.is.0 in
      let r : Parses _ (Rep (Nt Part)) (lexemes ts) (Some x) [] =
      subst (λ (w : List Lexeme). Parses _ (Rep (Nt Part)) w (Some x) []) start (subst (λ (w : List Lexeme). Parses _ (Rep (Nt Part)) u (Some x) w) e a.is.1) in
      let built : after ≡ record { modules = modules_of x; items = items_of x; names = names_of x } = a.is.2 ∙ ap (λ b. with_sections b x) empty ∙ sections_added _ x in
      record {
        sections = x;
        fit = sections_fit r;
        only = λ others m. sections_only r m;
        modules = ap (λ (b : Building). b.modules) built;
        items = ap (λ (b : Building). b.items) built;
        names = ap (λ (b : Building). b.names) built;
      }

  fault_left : (end at : At) → IsShallow (lexemes ts) → next_place v ≡ Some at → Adding (Rep (Nt Part)) with_sections u (Ok tt) v before after → IsSyntaxFault ts end at
  fault_left end at shallow e a = go v e a.is.1
    where
      go : (w : List Lexeme) → next_place w ≡ Some at → Parses _ (Rep (Nt Part)) u (Some a.is.0) w → IsSyntaxFault ts end at
      go [] e r = absurd cc
      go (t ∷ w) e r = let f = fault_after r in record { shallow = shallow; before = f.0; rest = t ∷ w; parts = sym start ∙ f.1; fault = f.2; place = sym (some_same e) }

  pub refused_left : (end : At) (f : SyntaxFault) → IsShallow (lexemes ts) → IsFinished v (Err f) → Adding (Rep (Nt Part)) with_sections u (Ok tt) v before after → IsSyntaxRefusal ts end f
  refused_left end (refusal.Syntax at) shallow e a = fault_left end at shallow e a
  refused_left end (refusal.Nesting at) shallow e a = absurd e
  refused_left end (refusal.Twice at name) shallow e a = absurd e
  refused_left end refusal.Memory shallow e a = absurd e

  pub fault_here : (end at : At) → IsShallow (lexemes ts) → at ≡ unwrap_or (next_place v) end → (d : Fault) → d ≡ fault.Syntax → Adding (Rep (Nt Part)) with_sections u (Err d) v before after → IsSyntaxFault ts end at
  fault_here end at shallow e fault.Memory is a = absurd cc
  fault_here end at shallow e fault.Syntax is a = go v e a.is
    where
      go : (w : List Lexeme) → at ≡ unwrap_or (next_place w) end → Parses _ (Rep (Nt Part)) u None w → IsSyntaxFault ts end at
      go [] e r = let f = fault_within r in record { shallow = shallow; before = f.0; rest = []; parts = sym start ∙ f.1; fault = f.2; place = e }
      go (t ∷ w) e r = let f = fault_within r in record { shallow = shallow; before = f.0; rest = t ∷ w; parts = sym start ∙ f.1; fault = f.2; place = e }
