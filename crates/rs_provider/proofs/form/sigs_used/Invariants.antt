use Rattle.std.proofs.Common.{◌≡◌, take}
use Rattle.rs_plans.specs.Plans.{sigs_used}
use Rattle.rs_provider.proofs.form.sigs_used.Given as goal

abbrev pub invariant-loop-one : goal.invariant-loop-one
invariant-loop-one l = l.sigs ≡ sigs_used (take l.one-index l.uses)
