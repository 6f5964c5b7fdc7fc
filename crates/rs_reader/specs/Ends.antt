-- What is asked of a text once its forms are read.
use Rattle.std.specs.Prelude.{◌≡◌, List, [], Some, Result, Ok, Err}
use Rattle.rs_grammar.specs.declared.fault.SyntaxFault.{SyntaxFault}
use Rattle.rs_grammar.specs.declared.fault.SyntaxFault.TheVariants as fault
use Rattle.rs_grammar.specs.declared.named.Named.{Named}
use Rattle.rs_grammar.specs.Lexeme.{Lexeme, next_place}
use Rattle.rs_grammar.specs.Twice.{AllOnce, IsTwiceAt}

-- no token is left, or where the next one begins
abbrev pub IsFinished : List Lexeme → Result (Unit {0}) SyntaxFault → Type 0
IsFinished rest (Ok done) = rest ≡ []
IsFinished rest (Err (fault.Syntax at)) = next_place rest ≡ Some at
IsFinished rest (Err (fault.Nesting at)) = ⊥
IsFinished rest (Err (fault.Twice at name)) = ⊥
IsFinished rest (Err fault.Memory) = ⊥

-- each name is defined once, or which isn't
abbrev pub HasNames : List Named → Result (Unit {0}) SyntaxFault → Type 0
HasNames names (Ok done) = AllOnce names
HasNames names (Err (fault.Twice at name)) = IsTwiceAt names at name
HasNames names (Err fault.Memory) = Unit {0}
HasNames names (Err (fault.Nesting at)) = ⊥
HasNames names (Err (fault.Syntax at)) = ⊥
