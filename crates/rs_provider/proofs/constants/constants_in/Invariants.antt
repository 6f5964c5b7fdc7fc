use Rattle.std.proofs.Common.{◌≡◌, ◌++◌, drop}
use Rattle.rs_plans.specs.Plans.{constants_in}
use Rattle.rs_provider.proofs.constants.constants_in.Given as goal

abbrev pub invariant-loop-one : goal.invariant-loop-one
invariant-loop-one l = l.places ++ constants_in l.index (drop l.one-index l.found) ≡ constants_in l.index l.found
