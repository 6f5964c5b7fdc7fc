use Rattle.std.proofs.Common.{◌≡◌, ◌++◌, drop}
use Rattle.rs_reach.specs.Dead.{numbers_where}
use Rattle.rs_units.specs.Members.{is_inline}
use Rattle.rs_units.proofs.kinds.inline_numbers.Given as goal

abbrev pub invariant-loop-i : goal.invariant-loop-i
invariant-loop-i l = l.numbers.items ++ numbers_where is_inline l.i (drop l.i l.items) ≡ numbers_where is_inline 0 l.items
