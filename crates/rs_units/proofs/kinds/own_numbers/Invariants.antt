use Rattle.std.proofs.Common.{◌≡◌, ◌++◌, drop}
use Rattle.rs_reach.specs.Dead.{numbers_where}
use Rattle.rs_units.specs.Units.{is_own}
use Rattle.rs_units.proofs.kinds.own_numbers.Given as goal

abbrev pub invariant-loop-i : goal.invariant-loop-i
invariant-loop-i l = l.numbers.items ++ numbers_where (is_own l.unit) l.i (drop l.i l.items) ≡ numbers_where (is_own l.unit) 0 l.items
