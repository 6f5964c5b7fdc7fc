use Rattle.std.proofs.Common.{◌≡◌, take, map}
use Rattle.rs_lookup.specs.Keys.{plain}
use Rattle.rs_types.specs.Types.{places_of}
use Rattle.rs_types.proofs.sigs.Sigs.new.Given as goal

abbrev pub invariant-loop-place : goal.invariant-loop-place
invariant-loop-place l = map plain l.keys.items ≡ places_of (take l.place-index l.entries)
