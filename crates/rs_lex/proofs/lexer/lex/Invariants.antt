use Rattle.std.proofs.Common.{length}
use Rattle.rs_lex.proofs.Texts.{IsRead}
use Rattle.rs_lex.proofs.lexer.lex.Given as goal

abbrev pub invariant-loop-rest : goal.invariant-loop-rest
invariant-loop-rest l = IsRead l.fn.text l.rest l.tokens l.at

abbrev pub decreases-loop-rest : goal.decreases-loop-rest
decreases-loop-rest l = length l.rest
