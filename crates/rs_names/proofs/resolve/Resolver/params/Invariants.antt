use Rattle.std.proofs.Common.{◌≡◌, drop}
use Rattle.rs_names.specs.State.{within}
use Rattle.rs_names.proofs.resolve.Resolver.params.Given as goal

abbrev pub invariant-loop-param : goal.invariant-loop-param
invariant-loop-param l = within (drop l.param-index l.params) l.self ≡ within l.params l.fn.self
