use Rattle.std.proofs.Common.{◌≡◌, take}
use Rattle.rs_grammar.specs.Lexeme.{token_kinds}
use Rattle.rs_reader.proofs.lexeme.kinds_of.Given as goal

abbrev pub invariant-loop-token : goal.invariant-loop-token
invariant-loop-token l = l.kinds.items ≡ token_kinds (take l.token-index l.tokens)
