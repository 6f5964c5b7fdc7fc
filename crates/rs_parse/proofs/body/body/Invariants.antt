use Rattle.std.proofs.Common.{length}
use Rattle.rs_parse.specs.Blocks.{BodyTurns}
use Rattle.rs_parse.proofs.body.body.Given as goal

abbrev pub invariant-turns : goal.invariant-turns
invariant-turns l = BodyTurns l.fn.tokens l.found l.tokens

abbrev pub decreases-turns : goal.decreases-turns
decreases-turns l = length l.tokens
