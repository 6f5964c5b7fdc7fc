use Rattle.std.proofs.Common.{◌≡◌, take, map}
use Rattle.rs_lookup.specs.Keys.{plain}
use Rattle.rs_lookup.specs.Places.{place_name}
use Rattle.rs_build.proofs.told.places_of.Given as goal

abbrev pub invariant-loop-place : goal.invariant-loop-place
invariant-loop-place l = map plain l.keys.items ≡ map place_name (take l.place-index l.places)
