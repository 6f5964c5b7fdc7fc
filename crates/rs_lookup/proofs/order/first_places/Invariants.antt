use Rattle.std.proofs.Common.{◌≡◌, map, drop}
use Rattle.std.specs.BTreeMap.{get}
use Rattle.rs_tree.specs.Order.{place_cmp}
use Rattle.rs_tree.specs.declared.place.Place.{Place}
use Rattle.rs_lookup.specs.Places.{place_from, place_name}
use Rattle.rs_lookup.proofs.order.first_places.Given as goal

abbrev pub invariant-loop-i : goal.invariant-loop-i
invariant-loop-i l = (q : Place) → get place_cmp l.first q ≡ place_from (place_name q) l.i (map place_name (drop l.i l.places))
