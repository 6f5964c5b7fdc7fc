use Rattle.std.proofs.Common.{◌≡◌, map, take}
use Rattle.rs_lookup.specs.Places.{place_name}
use Rattle.rs_provider.specs.Readied.{placed_name}
use Rattle.rs_provider.proofs.readied.places_of.Given as goal

abbrev pub invariant-loop-placed : goal.invariant-loop-placed
invariant-loop-placed l = map place_name l.places ≡ map placed_name (take l.placed-index l.items)
