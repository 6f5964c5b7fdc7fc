-- What the lexer's refusals say.
use Rattle.std.specs.Prelude.{ℕ, List}
use Rattle.rs_lex.specs.declared.fault.LexFault.{LexFault}
use Rattle.rs_lex.specs.declared.fault.LexFault.TheVariants as f
use Rattle.rs_lex.specs.Tokens.{HasFault}

-- a place is that of the first fault; want of memory says nothing
abbrev pub IsLexRefusal : List ℕ → LexFault → Type 0
IsLexRefusal text (f.At at) = HasFault text at
IsLexRefusal text f.Memory = Unit {0}
