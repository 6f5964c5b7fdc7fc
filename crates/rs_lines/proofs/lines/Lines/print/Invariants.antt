use Rattle.std.proofs.Common.{◌≡◌, map}
use Rattle.std.specs.Borrow.{Bor}
use Rattle.rs_lines.specs.Lines.{printed_all}
use Rattle.rs_lines.specs.declared.line.Line.{Line}
use Rattle.rs_lines.proofs.lines.Lines.print.Given as goal

-- what was printed is the lines so far
abbrev pub invariant-loop-line : goal.invariant-loop-line
invariant-loop-line l = l.out ≡ printed_all (map (λ (b : Bor Line). b.now) l.yielded)
