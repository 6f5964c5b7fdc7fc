use Rattle.std.proofs.Common.{◌≡◌, map, fold}
use Rattle.rs_lines.specs.Lines.{line_of, note}
use Rattle.rs_build.proofs.told.tell_all.Given as goal

abbrev pub invariant-loop-diag : goal.invariant-loop-diag
invariant-loop-diag l = l.lines ≡ fold note l.initial.lines (map (line_of l.start) l.yielded)
