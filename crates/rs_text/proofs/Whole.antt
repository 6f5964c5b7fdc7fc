-- What a text is read as, and that nothing else is.
use Rattle.std.proofs.Common.{◌≡◌, ℕ, ◌⊎◌, inl, inr, List, Result, Ok, Err, refl, sym, ap, ◌∙◌, subst}
use Rattle.rs_tree.specs.declared.place.At.{At}
use Rattle.rs_tree.specs.declared.token.Token.{Token}
use Rattle.rs_tree.specs.declared.tree.Crate.{Crate}
use Rattle.rs_lex.specs.Faults.{IsLexRefusal}
use Rattle.rs_lex.specs.declared.fault.LexFault.{LexFault}
use Rattle.rs_lex.specs.declared.fault.LexFault.TheVariants as lex
use Rattle.rs_lex.specs.Places.{place_of}
use Rattle.rs_lex.specs.Tokens.{HasTokens, HasFault}
use Rattle.rs_lex.proofs.Total.{texts_are_answered, one_answer}
use Rattle.rs_grammar.specs.Correct.{HasTree, IsSyntaxRefusal}
use Rattle.rs_grammar.specs.declared.fault.SyntaxFault.{SyntaxFault}
use Rattle.rs_grammar.specs.declared.fault.SyntaxFault.TheVariants as syntax
use Rattle.rs_grammar.proofs.Decided.{one_tree, tree_faultless, one_refusal}
use Rattle.rs_grammar.proofs.There.{answers_are_there}
use Rattle.rs_text.specs.Faults.{fault_of}
use Rattle.rs_text.specs.Text.{IsTextRefusal, IsLexedAs, IsParsedAs, IsTextAs, lexing, lexed, parsing, parsed, parsed_text, lexed_text, text_of}
use Rattle.rs_text.specs.Laws.{LexedIs, ParsedIs, TextIs}
use Rattle.rs_text.specs.declared.fault.TextFault.{TextFault}
use Rattle.rs_text.specs.declared.fault.TextFault.TheVariants as text

pub lexed_is : (bytes : List ℕ) → IsLexedAs bytes (lexed bytes)
unfolding lexed
lexed_is bytes = go (texts_are_answered bytes)
  where
    go : (a : ((tokens : List Token) × HasTokens bytes tokens) ⊎ ((at : At) × HasFault bytes at)) → IsLexedAs bytes (lexing bytes a)
    go (inl found) = found.1
    go (inr fault) = fault.1

same_lexed : (bytes : List ℕ) (a b : Result (List Token) At) → IsLexedAs bytes a → IsLexedAs bytes b → a ≡ b
same_lexed bytes (Ok x) (Ok y) p q = ap Ok (one_answer.tokens bytes x y p q)
same_lexed bytes (Ok x) (Err y) p q = absurd (one_answer.faultless bytes x y p q)
same_lexed bytes (Err x) (Ok y) p q = absurd (one_answer.faultless bytes y x q p)
same_lexed bytes (Err x) (Err y) p q = ap Err (one_answer.fault bytes x y p q)

pub lexed_only : (bytes : List ℕ) (answer : Result (List Token) At) → IsLexedAs bytes answer → answer ≡ lexed bytes
lexed_only bytes answer p = same_lexed bytes answer (lexed bytes) p (lexed_is bytes)

pub parsed_is : (tokens : List Token) (end : At) → IsParsedAs tokens end (parsed tokens end)
unfolding parsed
parsed_is tokens end = go (answers_are_there tokens end)
  where
    go : (a : ((tree : Crate) × HasTree tokens tree) ⊎ ((fault : SyntaxFault) × IsSyntaxRefusal tokens end fault × (fault ≡ syntax.Memory → ⊥))) → IsParsedAs tokens end (parsing tokens end a)
    go (inl found) = found.1
    go (inr fault) = (fault.1, fault.2)

same_parsed : (tokens : List Token) (end : At) (a b : Result Crate SyntaxFault) → IsParsedAs tokens end a → IsParsedAs tokens end b → a ≡ b
same_parsed tokens end (Ok x) (Ok y) p q = ap Ok (one_tree tokens x y p q)
same_parsed tokens end (Ok x) (Err y) p q = absurd (q.1 (tree_faultless tokens end x y p q.0))
same_parsed tokens end (Err x) (Ok y) p q = absurd (p.1 (tree_faultless tokens end y x q p.0))
same_parsed tokens end (Err x) (Err y) p q = elim (one_refusal tokens end x y p.0 q.0) [ inl e ↦ ap Err e | inr f ↦ absurd (elim f [ inl e ↦ p.1 e | inr e ↦ q.1 e ]) ]

pub parsed_only : (tokens : List Token) (end : At) (answer : Result Crate SyntaxFault) → IsParsedAs tokens end answer → answer ≡ parsed tokens end
parsed_only tokens end answer p = same_parsed tokens end answer (parsed tokens end) p (parsed_is tokens end)

text_is : (bytes : List ℕ) → IsTextAs bytes (text_of bytes)
unfolding text_of
text_is bytes = on (lexed bytes) (lexed_is bytes)
  where
    within : (tokens : List Token) → HasTokens bytes tokens → (r : Result Crate SyntaxFault) → IsParsedAs tokens (place_of bytes) r → IsTextAs bytes (parsed_text r)
    within tokens are (Ok tree) p = record { tokens = tokens; are = are; holds = p }
    within tokens are (Err (syntax.Nesting at)) p = record { tokens = tokens; are = are; holds = p.0 }
    within tokens are (Err (syntax.Syntax at)) p = record { tokens = tokens; are = are; holds = p.0 }
    within tokens are (Err (syntax.Twice at name)) p = record { tokens = tokens; are = are; holds = p.0 }
    within tokens are (Err syntax.Memory) p = p.1 refl

    on : (r : Result (List Token) At) → IsLexedAs bytes r → IsTextAs bytes (lexed_text (place_of bytes) r)
    on (Ok tokens) p = within tokens p (parsed tokens (place_of bytes)) (parsed_is tokens (place_of bytes))
    on (Err at) p = p

-- lexed and parsed so, a text is read so
pub read_so : (bytes : List ℕ) (tokens : List Token) (r : Result Crate SyntaxFault) → HasTokens bytes tokens → IsParsedAs tokens (place_of bytes) r → parsed_text r ≡ text_of bytes
unfolding text_of
read_so bytes tokens r are p = ap parsed_text (parsed_only tokens (place_of bytes) r p) ∙ ap (lexed_text (place_of bytes)) (lexed_only bytes (Ok tokens) are)

pub fault_so : (bytes : List ℕ) (at : At) → HasFault bytes at → Err (text.Byte at) ≡ text_of bytes
unfolding text_of
fault_so bytes at p = ap (lexed_text (place_of bytes)) (lexed_only bytes (Err at) p)

-- what the lexer refuses, in the form that a match has it
pub byte_so : (bytes : List ℕ) (f : LexFault) (at : At) → f ≡ lex.At at → IsLexRefusal bytes f → text_of bytes ≡ Err (text.Byte at)
byte_so bytes (lex.At to) at e p = let same : to ≡ at = cc in sym (fault_so bytes at (subst (HasFault bytes) same p))
byte_so bytes lex.Memory at e p = absurd cc

pub refusal_so : (bytes : List ℕ) (tokens : List Token) (end : At) → HasTokens bytes tokens → end ≡ place_of bytes → (f : SyntaxFault) → IsSyntaxRefusal tokens end f → IsTextRefusal bytes (fault_of f)
refusal_so bytes tokens end are e (syntax.Nesting at) p = sym (read_so bytes tokens (Err (syntax.Nesting at)) are (p, λ z. cc))
refusal_so bytes tokens end are e (syntax.Syntax at) p = sym (read_so bytes tokens (Err (syntax.Syntax at)) are (subst (λ (w : At). IsSyntaxRefusal tokens w (syntax.Syntax at)) e p, λ z. cc))
refusal_so bytes tokens end are e (syntax.Twice at name) p = sym (read_so bytes tokens (Err (syntax.Twice at name)) are (p, λ z. cc))
refusal_so bytes tokens end are e syntax.Memory p = tt

pub text_only : (bytes : List ℕ) (answer : Result Crate TextFault) → IsTextAs bytes answer → answer ≡ text_of bytes
text_only bytes (Ok tree) p = read_so bytes p.tokens (Ok tree) p.are p.holds
text_only bytes (Err (text.Byte at)) p = fault_so bytes at p
text_only bytes (Err (text.Nesting at)) p = read_so bytes p.tokens (Err (syntax.Nesting at)) p.are (p.holds, λ e. cc)
text_only bytes (Err (text.Syntax at)) p = read_so bytes p.tokens (Err (syntax.Syntax at)) p.are (p.holds, λ e. cc)
text_only bytes (Err (text.Twice at name)) p = read_so bytes p.tokens (Err (syntax.Twice at name)) p.are (p.holds, λ e. cc)
text_only bytes (Err text.Memory) p = absurd p

pub lexed_law : LexedIs
lexed_law = record { is = lexed_is; only = lexed_only }

pub parsed_law : ParsedIs
parsed_law = record { is = parsed_is; only = parsed_only }

pub text_law : TextIs
text_law = record { is = text_is; only = text_only }
