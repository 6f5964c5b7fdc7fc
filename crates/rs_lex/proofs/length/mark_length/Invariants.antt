use Rattle.std.proofs.Common.{◌≡◌}
use Rattle.rs_lex.specs.Pieces.{is_mark}
use Rattle.rs_lex.specs.Scan.{longest_front}
use Rattle.rs_lex.proofs.length.mark_length.Given as goal

abbrev pub invariant-loop-count : goal.invariant-loop-count
invariant-loop-count l = longest_front is_mark l.count l.rest ≡ longest_front is_mark 4 l.rest

abbrev pub decreases-loop-count : goal.decreases-loop-count
decreases-loop-count l = l.count
