use Rattle.std.proofs.Common.{◌≡◌, map, take}
use Rattle.rs_units.specs.Members.{is_inline}
use Rattle.rs_units.proofs.kinds.inline_marks.Given as goal

abbrev pub invariant-loop-item : goal.invariant-loop-item
invariant-loop-item l = l.marks.items ≡ map is_inline (take l.item-index l.items)
