use Rattle.std.proofs.Common.{◌≡◌, map, take}
use Rattle.rs_grammar.specs.Lexeme.{lexeme, moved, token}
use Rattle.rs_reader.proofs.tokens.copies_of.Given as goal

abbrev pub invariant-loop-from : goal.invariant-loop-from
invariant-loop-from l = l.copies.items ≡ map (λ t. token (moved l.base (lexeme t))) (take l.from-index l.tokens)
