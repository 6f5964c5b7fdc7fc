use Rattle.std.proofs.Common.{◌≡◌}
use Rattle.rs_check.specs.Items.{lines}
use Rattle.rs_check.proofs.lines.in_order.Given as goal

abbrev pub invariant-loop-diag : goal.invariant-loop-diag
invariant-loop-diag l = l.set.keys ≡ lines l.yielded

abbrev pub invariant-loop-diag-2 : goal.invariant-loop-diag-2
invariant-loop-diag-2 l = l.list ≡ l.yielded
