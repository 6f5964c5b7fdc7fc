-- A crate that grows while its text is read.
use Rattle.std.specs.Prelude.{◌≡◌, ℕ, List, [], ◌∷◌, ◌++◌, Some, None, Result, Ok, Err}
use Rattle.rs_tree.specs.declared.place.At.{At}
use Rattle.rs_reader.specs.declared.fault.Fault.{Fault}
use Rattle.rs_reader.specs.declared.fault.Fault.TheVariants as fault
use Rattle.rs_parse.specs.declared.part.Building.{Building}
use Rattle.rs_grammar.specs.declared.sited.Sited.{Sited}
use Rattle.rs_grammar.specs.Correct.{placed_in, name_in}
use Rattle.rs_grammar.specs.Lexeme.{Lexeme}
use Rattle.rs_grammar.specs.Grammar.{Shape, Val, Grammar, Section, Module, Alone}
use Rattle.rs_reader.specs.Reading.{Advances, Turns}
use Rattle.rs_grammar.specs.Parses.{Parses}
use Rattle.rs_grammar.specs.Sets.{nullable}

-- one more item
abbrev pub with_item : List ℕ → Building → Sited → Building
with_item name b s = record { modules = b.modules; items = b.items ++ placed_in name s ∷ []; names = b.names ++ name_in name s ∷ [] }

abbrev pub with_items : List ℕ → Building → List Sited → Building
with_items name b [] = b
with_items name b (s ∷ ss) = with_items name (with_item name b s) ss

-- one more module, without its items
abbrev pub with_name : Building → At → List ℕ → Building
with_name b at name = record { modules = b.modules ++ name ∷ []; items = b.items; names = b.names ++ record { at = at; «module» = None; name = name } ∷ [] }

abbrev pub with_section : Building → Section → Building
with_section b (Module at name items) = with_items name (with_name b at name) items
with_section b (Alone s) = with_item [] b s

abbrev pub with_sections : Building → List Section → Building
with_sections b [] = b
with_sections b (p ∷ ps) = with_sections (with_section b p) ps

-- A form was read, and what it stands for was added; or its fault stands before what is left, unless memory
-- ran out.
abbrev pub Added : {s : Shape} → Grammar s → (Building → Val s → Building) → List Lexeme → Result (Unit {0}) Fault → List Lexeme → Building → Building → Type 0
Added {s} g add old (Ok done) new before after = (x : Val s) × Parses _ g old (Some x) new × (after ≡ add before x)
Added g add old (Err fault.Syntax) new before after = Parses _ g old None new
Added g add old (Err fault.Memory) new before after = Unit {0}

pub record Adding {s : Shape} (g : Grammar s) (add : Building → Val s → Building) (old : List Lexeme) (result : Result (Unit {0}) Fault) (new : List Lexeme) (before after : Building) : Type 0 where
  pub is : Added g add old result new before after
  pub on : Advances (nullable g) result old new

-- the turns done so far
pub record AddTurns {s : Shape} (g : Grammar s) (adds : Building → List (Val s) → Building) (start now : List Lexeme) (before after : Building) : Type 0 where
  pub done : List (Val s)
  pub turns : Turns g start done now
  pub built : after ≡ adds before done
