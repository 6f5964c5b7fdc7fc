-- How a function that adds to a crate returns.
use Rattle.std.proofs.Common.{◌≡◌, ℕ, Bool, true, false, List, [], ◌∷◌, ◌++◌, Some, None, Result, Ok, Err, refl, ◌∙◌, subst, append-nil}
use Rattle.std.specs.Result.{IsErrAnd}
use Rattle.rs_reader.specs.declared.fault.Fault.{Fault}
use Rattle.rs_reader.specs.declared.fault.Fault.TheVariants as fault
use Rattle.rs_parse.specs.declared.part.Building.{Building}
use Rattle.rs_grammar.specs.Lexeme.{Lexeme}
use Rattle.rs_grammar.specs.declared.sited.Sited.{Sited}
use Rattle.rs_grammar.specs.Grammar.{Shape, Val, Grammar, Rep, Section}
use Rattle.rs_grammar.specs.Sets.{nullable, first, next_in}
use Rattle.rs_grammar.specs.Parses.{Parses, r-stop, r-no_turn}
use Rattle.rs_reader.specs.Reading.{Reading, Advances}
use Rattle.rs_parse.specs.Building.{Adding, AddTurns, with_item, with_items, with_section, with_sections}
use Rattle.rs_reader.proofs.Exits.{read, turns_none, turns_more}

same_on : (X Y : Type 0) (b : Bool) (x : X) (y : Y) (u v : List Lexeme) → Advances b (Ok x) u v → Advances b (Ok y) u v
same_on X Y true x y u v h = h
same_on X Y false x y u v h = h

none_on : (X : Type 0) (b : Bool) (e : Fault) (u v : List Lexeme) → Advances {X = X} b (Err e) u v
none_on X true e u v = tt
none_on X false e u v = tt

module _ {s : Shape} {g : Grammar s} {add : Building → Val s → Building} {u w : List Lexeme} {before after : Building} where
  pub adds : (x : Val s) → Parses _ g u (Some x) w → after ≡ add before x → Adding g add u (Ok tt) w before after
  adds x r e = record { is = (x, r, e); on = same_on (Val s) (Unit {0}) (nullable g) x tt u w (read r).on }

  pub add_fails : Parses _ g u None w → Adding g add u (Err fault.Syntax) w before after
  add_fails r = record { is = r; on = none_on (Unit {0}) (nullable g) fault.Syntax u w }

  pub add_lacks : Adding g add u (Err fault.Memory) w before after
  add_lacks = record { is = tt; on = none_on (Unit {0}) (nullable g) fault.Memory u w }

  -- a fault within is a fault
  pub add_passes : {t : Shape} {h : Grammar t} {v : List Lexeme} (e : Fault) (r : Result (Unit {0}) Fault) → IsErrAnd r (λ d. d ≡ e) → Reading h v (Err e) w → (Parses _ h v None w → Parses _ g u None w) → Adding g add u r w before after
  add_passes e (Ok x) i f k = absurd i
  add_passes fault.Syntax (Err fault.Syntax) i f k = add_fails (k f.is)
  add_passes fault.Memory (Err fault.Syntax) i f k = absurd cc
  add_passes e (Err fault.Memory) i f k = add_lacks

  -- the same of what adds
  pub add_passes_on : {t : Shape} {h : Grammar t} {more : Building → Val t → Building} {v : List Lexeme} {old new : Building} (e : Fault) (r : Result (Unit {0}) Fault) → IsErrAnd r (λ d. d ≡ e) → Adding h more v (Err e) w old new
      → (Parses _ h v None w → Parses _ g u None w) → Adding g add u r w before after
  add_passes_on e (Ok x) i f k = absurd i
  add_passes_on fault.Syntax (Err fault.Syntax) i f k = add_fails (k f.is)
  add_passes_on fault.Memory (Err fault.Syntax) i f k = absurd cc
  add_passes_on e (Err fault.Memory) i f k = add_lacks

  -- want of memory
  pub add_wants : (r : Result (Unit {0}) Fault) → IsErrAnd r (λ d. d ≡ fault.Memory) → Adding g add u r w before after
  add_wants (Ok x) i = absurd i
  add_wants (Err fault.Syntax) i = absurd cc
  add_wants (Err fault.Memory) i = add_lacks

-- what was added in a part of a form is added in the form
pub add_hands : {s t : Shape} {g : Grammar s} {h : Grammar t} {more : Building → Val s → Building} {add : Building → Val t → Building} {u v w : List Lexeme} {before after : Building} {f : Val s → Val t}
    (r : Result (Unit {0}) Fault) → Adding g more v r w before after → (Parses _ g v None w → Parses _ h u None w) → ((x : Val s) → Parses _ g v (Some x) w → Parses _ h u (Some (f x)) w)
    → ((b : Building) (x : Val s) → more b x ≡ add b (f x)) → Adding h add u r w before after
add_hands {f} (Ok done) a k l same = adds (f a.is.0) (l a.is.0 a.is.1) (a.is.2 ∙ same _ a.is.0)
add_hands (Err fault.Syntax) a k l same = add_fails (k a.is)
add_hands (Err fault.Memory) a k l same = add_lacks

-- one more
pub items_more : (name : List ℕ) (b : Building) (ss : List Sited) (s : Sited) → with_items name b (ss ++ s ∷ []) ≡ with_item name (with_items name b ss) s
items_more name b [] s = refl
items_more name b (t ∷ ss) s = items_more name (with_item name b t) ss s

pub sections_more : (b : Building) (ps : List Section) (p : Section) → with_sections b (ps ++ p ∷ []) ≡ with_section (with_sections b ps) p
sections_more b [] p = refl
sections_more b (q ∷ ps) p = sections_more (with_section b q) ps p

module _ {s : Shape} {g : Grammar s} {addall : Building → List (Val s) → Building} where
  pub add_turns_none : {u : List Lexeme} {before : Building} → before ≡ addall before [] → AddTurns g addall u u before before
  add_turns_none e = record { done = []; turns = turns_none; built = e }

  pub add_turns_more : {u v w : List Lexeme} {before now after : Building} {x : Val s} → (t : AddTurns g addall u v before now) → next_in (first g) v ≡ true → Parses _ g v (Some x) w
      → after ≡ addall before (t.done ++ x ∷ []) → AddTurns g addall u w before after
  add_turns_more {x} t c r e = record { done = t.done ++ x ∷ []; turns = turns_more t.turns c r; built = e }

  pub add_turns_fail : {u v w : List Lexeme} {before now : Building} → (t : AddTurns g addall u v before now) → next_in (first g) v ≡ true → Parses _ g v None w → Parses _ (Rep g) u None w
  add_turns_fail {w} t c r = t.turns.fails w (r-no_turn c r)

  pub add_turns_end : {u v : List Lexeme} {before now : Building} → (t : AddTurns g addall u v before now) → next_in (first g) v ≡ false → Adding (Rep g) addall u (Ok tt) v before now
  add_turns_end {u} {v} {before} {now} t c = adds t.done (subst (λ (l : List (Val s)). Parses _ (Rep g) u (Some l) v) (append-nil t.done) (t.turns.ends [] v (r-stop c))) t.built
