use Rattle.std.proofs.Common.{◌≡◌, [], ◌∷◌, take}
use Rattle.std.specs.Prelude.{filter}
use Rattle.rs_units.specs.Units.{has_own}
use Rattle.rs_units.proofs.owners.units.Given as goal

abbrev pub invariant-loop-module : goal.invariant-loop-module
invariant-loop-module l = l.units ≡ filter (has_own l.index.items) ([] ∷ take l.module-index l.module-items)
