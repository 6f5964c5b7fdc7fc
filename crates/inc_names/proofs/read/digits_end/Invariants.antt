use Rattle.std.proofs.Common.{take}
use Rattle.std.specs.List.{AllPass}
use Rattle.inc_base.specs.Base36.{is_digit36}
use Rattle.inc_names.proofs.read.digits_end.Given as goal

abbrev pub invariant-loop-end : goal.invariant-loop-end
invariant-loop-end l = AllPass is_digit36 (take l.end l.text)
