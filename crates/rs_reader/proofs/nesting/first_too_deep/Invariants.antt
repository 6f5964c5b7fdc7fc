use Rattle.std.proofs.Common.{◌≡◌, ◌≤◌, take}
use Rattle.rs_grammar.specs.Lexeme.{lexemes}
use Rattle.rs_grammar.specs.Nesting.{IsShallow, depth}
use Rattle.rs_reader.proofs.nesting.first_too_deep.Given as goal

abbrev pub invariant-loop-i : goal.invariant-loop-i
invariant-loop-i l = record {
  count : l.«open» ≡ depth (take l.i (lexemes l.tokens));
  few : l.«open» ≤ 64;
  shallow : IsShallow (take l.i (lexemes l.tokens));
}
