use Rattle.std.proofs.Common.{◌≡◌, ◌++◌, take}
use Rattle.std.specs.List.{flat_map}
use Rattle.inc_wire.specs.Fits.{Each}
use Rattle.inc_wire.proofs.field.put_all.Given as goal

abbrev pub invariant-loop-item : goal.invariant-loop-item
invariant-loop-item g l = (l.to ≡ l.initial.to ++ flat_map g.T.Field.form (take l.item-index l.items)) × Each g.T.Field.fits (take l.item-index l.items)
