use Rattle.std.proofs.Common.{◌≡◌, take, map}
use Rattle.rs_lookup.specs.Keys.{plain}
use Rattle.rs_const.specs.Constants.{names}
use Rattle.rs_provider.proofs.worth.places_of.Given as goal

abbrev pub invariant-loop-place : goal.invariant-loop-place
invariant-loop-place l = map plain l.keys.items ≡ names (take l.place-index l.known)
