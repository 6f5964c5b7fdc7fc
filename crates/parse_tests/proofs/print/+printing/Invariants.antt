use Rattle.std.proofs.Common.{◌*◌, ◌+◌}
use Rattle.parse_tests.proofs.print.+printing.Given as goal

abbrev pub decreases-expression : goal.decreases-expression
decreases-expression l = 3 * l.depth

abbrev pub decreases-form : goal.decreases-form
decreases-form l = 3 * l.depth + 2

abbrev pub decreases-around : goal.decreases-around
decreases-around l = 3 * l.depth + 1

abbrev pub decreases-compare : goal.decreases-compare
decreases-compare l = 3 * l.depth + 1

abbrev pub decreases-several : goal.decreases-several
decreases-several l = 3 * l.depth + 1

abbrev pub decreases-arith : goal.decreases-arith
decreases-arith l = 3 * l.depth + 1

abbrev pub decreases-call : goal.decreases-call
decreases-call l = 3 * l.depth + 1
