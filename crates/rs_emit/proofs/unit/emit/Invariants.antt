use Rattle.std.proofs.Common.{◌≡◌, take, map}
use Rattle.rs_emit.specs.Objects.{func_of}
use Rattle.rs_emit.proofs.unit.emit.Given as goal

abbrev pub invariant-loop-member : goal.invariant-loop-member
invariant-loop-member l = l.funcs ≡ map (func_of l.unit) (take l.member-index l.member-items)
