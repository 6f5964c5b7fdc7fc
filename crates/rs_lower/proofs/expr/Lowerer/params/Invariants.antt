use Rattle.std.proofs.Common.{◌≡◌, ◌+◌, ◌≤◌, drop, length}
use Rattle.rs_lower.specs.State.{declared_params}
use Rattle.rs_lower.proofs.expr.Lowerer.params.Given as goal

abbrev pub invariant-loop-param : goal.invariant-loop-param
invariant-loop-param l =
    (declared_params (drop l.param-index l.params) l.self ≡ declared_params l.params l.fn.self) ×
    (l.self.slots + length (drop l.param-index l.params) ≤ 65535)
