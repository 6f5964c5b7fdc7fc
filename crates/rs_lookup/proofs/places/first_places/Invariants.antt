use Rattle.std.proofs.Common.{◌≡◌, map, drop}
use Rattle.std.specs.BTreeMap.{get}
use Rattle.rs_lookup.specs.Keys.{Held, plain, held_cmp}
use Rattle.rs_lookup.specs.Places.{place_from}
use Rattle.rs_lookup.proofs.places.first_places.Given as goal

abbrev pub invariant-loop-i : goal.invariant-loop-i
invariant-loop-i l = (q : Held) → get held_cmp l.places q ≡ place_from (plain q) l.i (map plain (drop l.i l.keys))
