use Rattle.std.proofs.Common.{◌≡◌, map, take}
use Rattle.rs_lookup.specs.Places.{item_name, place_name}
use Rattle.rs_provider.proofs.indexed.places_of.Given as goal

abbrev pub invariant-loop-item : goal.invariant-loop-item
invariant-loop-item l = map place_name l.places ≡ map item_name (take l.item-index l.items)
