use Rattle.std.proofs.Common.{◌*◌, ◌+◌}
use Rattle.parse_tests.proofs.print_statement.+printing_statements.Given as goal

abbrev pub decreases-statement : goal.decreases-statement
decreases-statement l = 4 * l.depth

abbrev pub decreases-statements : goal.decreases-statements
decreases-statements l = 4 * l.depth + 1

abbrev pub decreases-choice : goal.decreases-choice
decreases-choice l = 4 * l.depth + 2

abbrev pub decreases-chain : goal.decreases-chain
decreases-chain l = 4 * l.depth + 3
