use Rattle.std.proofs.Common.{◌≡◌, take, map}
use Rattle.rs_lookup.specs.Keys.{plain}
use Rattle.rs_lower.specs.Meanings.{const_places}
use Rattle.rs_lower.proofs.lowering.places_of.Given as goal

abbrev pub invariant-loop-place : goal.invariant-loop-place
invariant-loop-place l = map plain l.keys.items ≡ const_places (take l.place-index l.consts)
