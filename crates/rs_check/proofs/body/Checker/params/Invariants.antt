use Rattle.std.proofs.Common.{◌≡◌, drop}
use Rattle.rs_check.specs.State.{with_all}
use Rattle.rs_check.proofs.body.Checker.params.Given as goal

abbrev pub invariant-loop-param : goal.invariant-loop-param
invariant-loop-param l = with_all (drop l.param-index l.params) l.self ≡ with_all l.params l.fn.self
