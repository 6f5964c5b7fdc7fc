use Rattle.std.proofs.Common.{◌≡◌, drop}
use Rattle.rs_grammar.specs.Lexeme.{lexemes, name_place}
use Rattle.rs_reader.proofs.tokens.first_name.Given as goal

abbrev pub invariant-loop-i : goal.invariant-loop-i
invariant-loop-i l = name_place (lexemes (drop l.i l.tokens)) ≡ name_place (lexemes l.tokens)
