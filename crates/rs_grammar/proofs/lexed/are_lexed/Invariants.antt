use Rattle.std.proofs.Common.{length}
use Rattle.rs_grammar.specs.Lexed.{IsLexed}
use Rattle.rs_grammar.proofs.lexed.are_lexed.Given as goal

abbrev pub invariant-loop-token : goal.invariant-loop-token
invariant-loop-token l = record {
  whole : IsLexed l.rest l.end → IsLexed l.fn.tokens l.end;
  part : IsLexed l.fn.tokens l.end → IsLexed l.rest l.end;
}

abbrev pub decreases-loop-token : goal.decreases-loop-token
decreases-loop-token l = length l.rest
