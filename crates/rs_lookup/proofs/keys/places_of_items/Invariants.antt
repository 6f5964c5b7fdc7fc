use Rattle.std.proofs.Common.{◌≡◌, map, take}
use Rattle.rs_lookup.specs.Keys.{plain}
use Rattle.rs_lookup.specs.Places.{item_name}
use Rattle.rs_lookup.proofs.keys.places_of_items.Given as goal

abbrev pub invariant-loop-item : goal.invariant-loop-item
invariant-loop-item l = map plain l.keys.items ≡ map item_name (take l.item-index l.items)
