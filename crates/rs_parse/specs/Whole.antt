-- What the steps of a parse answer.
use Rattle.std.specs.Prelude.{◌≡◌, List}
use Rattle.rs_tree.specs.declared.token.Token.{Token}
use Rattle.rs_parse.specs.declared.part.Building.{Building}
use Rattle.rs_grammar.specs.Lexeme.{lexemes}
use Rattle.rs_grammar.specs.Grammar.{Section}
use Rattle.rs_grammar.specs.Correct.{FitsCrate, modules_of, items_of, names_of}

-- the sections of the whole text were added
pub record HasSections (tokens : List Token) (found : Building) : Type 0 where
  pub sections : List Section
  pub fit : FitsCrate (lexemes tokens) sections
  pub only : (others : List Section) → FitsCrate (lexemes tokens) others → others ≡ sections
  pub modules : found.modules ≡ modules_of sections
  pub items : found.items ≡ items_of sections
  pub names : found.names ≡ names_of sections
