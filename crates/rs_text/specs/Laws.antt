-- The functions are what the definitions say, and nothing else is.
use Rattle.std.specs.Prelude.{◌≡◌, ℕ, List, Option, Some, Result}
use Rattle.rs_tree.specs.declared.place.At.{At}
use Rattle.rs_tree.specs.declared.token.Token.{Token}
use Rattle.rs_tree.specs.declared.tree.Crate.{Crate}
use Rattle.inc_wire.specs.Fits.{FitsList}
use Rattle.inc_wire.specs.Forms.{list_form}
use Rattle.inc_wire.specs.Readings.{IsReadAs}
use Rattle.rs_forms.specs.Fits.{FitsToken}
use Rattle.rs_forms.specs.Forms.{token_form}
use Rattle.rs_lex.specs.Places.{place_of}
use Rattle.rs_lex.specs.Ranges.{AreInRange}
use Rattle.rs_lex.specs.Tokens.{HasTokens}
use Rattle.rs_grammar.specs.Lexed.{IsLexed}
use Rattle.rs_grammar.specs.declared.fault.SyntaxFault.{SyntaxFault}
use Rattle.rs_text.specs.Text.{IsLexedAs, IsParsedAs, IsTextAs, lexed, parsed, text_of}
use Rattle.rs_text.specs.declared.fault.TextFault.{TextFault}

pub record LexedIs : Type 0 where
  pub is : (bytes : List ℕ) → IsLexedAs bytes (lexed bytes)
  pub only : (bytes : List ℕ) (answer : Result (List Token) At) → IsLexedAs bytes answer → answer ≡ lexed bytes

pub record ParsedIs : Type 0 where
  pub is : (tokens : List Token) (end : At) → IsParsedAs tokens end (parsed tokens end)
  pub only : (tokens : List Token) (end : At) (answer : Result Crate SyntaxFault) → IsParsedAs tokens end answer → answer ≡ parsed tokens end

pub record TextIs : Type 0 where
  pub is : (bytes : List ℕ) → IsTextAs bytes (text_of bytes)
  pub only : (bytes : List ℕ) (answer : Result Crate TextFault) → IsTextAs bytes answer → answer ≡ text_of bytes

-- The tokens of a text are in the order of their places, and the text's end is after them.
abbrev pub TokensAreLexed : Type 0
TokensAreLexed = (bytes : List ℕ) (tokens : List Token) → HasTokens bytes tokens → IsLexed tokens (place_of bytes)

-- Tokens in the ranges of their types are such as the byte forms have, and read back from their form.
pub record TokensFit : Type 0 where
  pub fit : (tokens : List Token) → AreInRange tokens → FitsList FitsToken tokens
  pub back : (tokens : List Token) (read : Option (List Token)) → AreInRange tokens → IsReadAs (FitsList FitsToken) (list_form token_form) (list_form token_form tokens) read → read ≡ Some tokens
