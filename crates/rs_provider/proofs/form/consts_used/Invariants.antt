use Rattle.std.proofs.Common.{◌≡◌, take}
use Rattle.rs_plans.specs.Plans.{consts_used}
use Rattle.rs_provider.proofs.form.consts_used.Given as goal

abbrev pub invariant-loop-one : goal.invariant-loop-one
invariant-loop-one l = l.consts ≡ consts_used (take l.one-index l.uses)
