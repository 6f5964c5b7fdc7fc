-- The grammar that docs/LANGUAGE.md writes and the factored one say the same.
use Rattle.std.specs.Prelude.{◌↔◌, List}
use Rattle.rs_tree.specs.declared.place.At.{At}
use Rattle.rs_tree.specs.declared.token.Token.{Token}
use Rattle.rs_tree.specs.declared.tree.Crate.{Crate}
use Rattle.rs_grammar.specs.declared.fault.SyntaxFault.{SyntaxFault}
use Rattle.rs_grammar.specs.Lexeme.{Lexeme}
use Rattle.rs_grammar.specs.Grammar.{Rule, Tree, Nt, AsWritten, Factored, MatchesIn, IsFrontIn}
use Rattle.rs_grammar.specs.Correct.{HasTreeIn, IsSyntaxRefusalIn}

-- Of each named form: what matches it, with its tree, and what is a front of it.
pub record FormsAgree : Type 0 where
  pub trees : (n : Rule) (tokens : List Lexeme) (x : Tree n) → MatchesIn AsWritten _ (Nt n) tokens x ↔ MatchesIn Factored _ (Nt n) tokens x
  pub fronts : (n : Rule) (tokens : List Lexeme) → IsFrontIn AsWritten _ (Nt n) tokens ↔ IsFrontIn Factored _ (Nt n) tokens

-- Of a whole text, as its tokens: its tree, and its first fault.
pub record TextsAgree : Type 0 where
  pub trees : (tokens : List Token) (tree : Crate) → HasTreeIn AsWritten tokens tree ↔ HasTreeIn Factored tokens tree
  pub faults : (tokens : List Token) (end : At) (fault : SyntaxFault) → IsSyntaxRefusalIn AsWritten tokens end fault ↔ IsSyntaxRefusalIn Factored tokens end fault
