use Rattle.rs_lines.specs.Tellings.{told_errors, told_lines, told_more}
use Rattle.rs_lines.proofs.laws.lines_are_told.Goals as goal

pub returns : goal.returns
returns c = record { lines = told_lines; errors = told_errors; more = told_more }
