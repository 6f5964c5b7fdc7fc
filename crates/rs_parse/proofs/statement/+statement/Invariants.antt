use Rattle.std.proofs.Common.{◌+◌, ◌*◌, length}
use Rattle.rs_tree.specs.declared.kind.Kind.TheVariants as k
use Rattle.rs_grammar.specs.Grammar.{Nt, Arm, Block, Statement}
use Rattle.rs_reader.specs.Reading.{Turns, TailTurns}
use Rattle.rs_parse.proofs.statement.+statement.Given as goal

abbrev pub decreases-statements : goal.decreases-statements
decreases-statements l = 10 * length l.tokens.now + 6

abbrev pub decreases-statement : goal.decreases-statement
decreases-statement l = 10 * length l.tokens.now + 5

abbrev pub decreases-worded : goal.decreases-worded
decreases-worded l = 10 * length l.tokens.now + 4

abbrev pub decreases-repeated : goal.decreases-repeated
decreases-repeated l = 10 * length l.tokens.now + 3

abbrev pub decreases-choice : goal.decreases-choice
decreases-choice l = 10 * length l.tokens.now + 3

abbrev pub decreases-arm : goal.decreases-arm
decreases-arm l = 10 * length l.tokens.now + 2

abbrev pub decreases-other_arms : goal.decreases-other_arms
decreases-other_arms l = 10 * length l.tokens.now + 1

abbrev pub decreases-block : goal.decreases-block
decreases-block l = 10 * length l.tokens.now + 1

abbrev pub invariant-statements-turns : goal.invariant-statements-turns
invariant-statements-turns l = Turns (Nt Statement) l.fn.tokens l.found l.tokens

abbrev pub decreases-statements-turns : goal.decreases-statements-turns
decreases-statements-turns l = length l.tokens

abbrev pub invariant-other_arms-turns : goal.invariant-other_arms-turns
invariant-other_arms-turns l = TailTurns k.Else (Nt Arm) (Nt Block) l.fn.tokens l.found l.tokens

abbrev pub decreases-other_arms-turns : goal.decreases-other_arms-turns
decreases-other_arms-turns l = length l.tokens
