-- What a text is lexed, parsed and read as: functions of its bytes, or of its tokens.
use Rattle.std.specs.Prelude.{◌≡◌, ◌⊎◌, ℕ, List, Result, Ok, Err}
use Rattle.std.proofs.Common.{inl, inr}
use Rattle.rs_tree.specs.declared.place.At.{At}
use Rattle.rs_tree.specs.declared.token.Token.{Token}
use Rattle.rs_tree.specs.declared.tree.Crate.{Crate}
use Rattle.rs_lex.specs.Places.{place_of}
use Rattle.rs_lex.specs.Tokens.{HasTokens, HasFault}
use Rattle.rs_lex.proofs.Total.{texts_are_answered}
use Rattle.rs_grammar.specs.Lexeme.{lexemes}
use Rattle.rs_grammar.specs.Nesting.{IsTooDeep}
use Rattle.rs_grammar.specs.Correct.{HasTree, IsSyntaxRefusal, IsSyntaxFault, IsNameTwice}
use Rattle.rs_grammar.specs.declared.fault.SyntaxFault.{SyntaxFault}
use Rattle.rs_grammar.specs.declared.fault.SyntaxFault.TheVariants as syntax
use Rattle.rs_grammar.proofs.There.{answers_are_there}
use Rattle.rs_text.specs.Faults.{fault_of}
use Rattle.rs_text.specs.declared.fault.TextFault.{TextFault}
use Rattle.rs_text.specs.declared.fault.TextFault.TheVariants as text

-- the tokens of a text, or the place of its first fault
abbrev pub IsLexedAs : List ℕ → Result (List Token) At → Type 0
IsLexedAs bytes (Ok tokens) = HasTokens bytes tokens
IsLexedAs bytes (Err at) = HasFault bytes at

-- the tree of tokens, or their first fault, which is never want of memory
abbrev pub IsParsedAs : List Token → At → Result Crate SyntaxFault → Type 0
IsParsedAs tokens end (Ok tree) = HasTree tokens tree
IsParsedAs tokens end (Err fault) = IsSyntaxRefusal tokens end fault × (fault ≡ syntax.Memory → ⊥)

-- the text has tokens, of which this holds
pub record WithTokens (bytes : List ℕ) (P : List Token → Type 0) : Type 0 where
  pub tokens : List Token
  pub are : HasTokens bytes tokens
  pub holds : P tokens

-- The tree of a text, or the first of its faults: a byte at which nothing begins, nesting, syntax, a name
-- defined twice.
abbrev pub IsTextAs : List ℕ → Result Crate TextFault → Type 0
IsTextAs bytes (Ok tree) = WithTokens bytes (λ tokens. HasTree tokens tree)
IsTextAs bytes (Err (text.Byte at)) = HasFault bytes at
IsTextAs bytes (Err (text.Nesting at)) = WithTokens bytes (λ tokens. IsTooDeep (lexemes tokens) at)
IsTextAs bytes (Err (text.Syntax at)) = WithTokens bytes (λ tokens. IsSyntaxFault tokens (place_of bytes) at)
IsTextAs bytes (Err (text.Twice at name)) = WithTokens bytes (λ tokens. IsNameTwice tokens at name)
IsTextAs bytes (Err text.Memory) = ⊥

abbrev pub lexing : (bytes : List ℕ) → ((tokens : List Token) × HasTokens bytes tokens) ⊎ ((at : At) × HasFault bytes at) → Result (List Token) At
lexing bytes (inl found) = Ok found.0
lexing bytes (inr fault) = Err fault.0

-- Each text has tokens or a first fault (`texts_are_answered` of rs_lex): those are what it is lexed as.
unfoldable pub lexed : List ℕ → Result (List Token) At
lexed bytes = lexing bytes (texts_are_answered bytes)

abbrev pub parsing : (tokens : List Token) (end : At) → ((tree : Crate) × HasTree tokens tree) ⊎ ((fault : SyntaxFault) × IsSyntaxRefusal tokens end fault × (fault ≡ syntax.Memory → ⊥)) → Result Crate SyntaxFault
parsing tokens end (inl found) = Ok found.0
parsing tokens end (inr fault) = Err fault.0

-- Each list of tokens has a tree or a fault (`answers_are_there` of rs_grammar): those are what it is parsed as.
unfoldable pub parsed : List Token → At → Result Crate SyntaxFault
parsed tokens end = parsing tokens end (answers_are_there tokens end)

abbrev pub parsed_text : Result Crate SyntaxFault → Result Crate TextFault
parsed_text (Ok tree) = Ok tree
parsed_text (Err fault) = Err (fault_of fault)

abbrev pub lexed_text : At → Result (List Token) At → Result Crate TextFault
lexed_text end (Ok tokens) = parsed_text (parsed tokens end)
lexed_text end (Err at) = Err (text.Byte at)

-- A text is lexed, and its tokens parsed.
unfoldable pub text_of : List ℕ → Result Crate TextFault
text_of bytes = lexed_text (place_of bytes) (lexed bytes)

-- what a call says that may lack memory
abbrev pub IsTextRefusal : List ℕ → TextFault → Type 0
IsTextRefusal bytes text.Memory = Unit {0}
IsTextRefusal bytes fault = text_of bytes ≡ Err fault
