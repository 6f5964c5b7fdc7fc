use Rattle.std.proofs.Common.{◌≡◌, take}
use Rattle.rs_queries.specs.Known.{typs_of}
use Rattle.rs_provider.proofs.sig.typs_of.Given as goal

abbrev pub invariant-loop-param : goal.invariant-loop-param
invariant-loop-param l = l.typs ≡ typs_of (take l.param-index l.params)
