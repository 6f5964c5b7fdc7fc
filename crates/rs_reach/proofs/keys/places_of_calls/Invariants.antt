use Rattle.std.proofs.Common.{◌≡◌, take, map}
use Rattle.rs_lookup.specs.Keys.{plain}
use Rattle.rs_reach.specs.Places.{call_names}
use Rattle.rs_reach.proofs.keys.places_of_calls.Given as goal

abbrev pub invariant-loop-place : goal.invariant-loop-place
invariant-loop-place l = map plain l.keys.items ≡ call_names (take l.place-index l.calls)
