-- A search that goes on as the calls of one more function are known.
use Rattle.std.specs.Prelude.{◌≡◌, ℕ, ◌+◌, Bool, List, length, Option, slice_get, option_and_then}
use Rattle.std.specs.declared.vec.Vec.{Vec}
use Rattle.std.specs.declared.alloc.Global.{Global}
use Rattle.rs_tree.specs.declared.place.Place.{Place}
use Rattle.rs_lookup.specs.Places.{Name, place_from}
use Rattle.rs_reach.specs.Search.{State, start, walk}
use Rattle.rs_reach.specs.Places.{IsLeft, ask}
use Rattle.rs_reach.specs.declared.search.Reached.{Reached}
use Rattle.rs_units.specs.Ready.{kept}
use Rattle.rs_provider.specs.declared.walk.Walk.{Walk}

-- the number of the first item of the same name
abbrev pub first_named : List Name → ℕ → Option ℕ
first_named names i = option_and_then (λ k. place_from k 0 names) (slice_get names i)

-- what is kept of an item's calls, by the first item of its name
abbrev pub held : List Name → List (Option (Vec ℕ Global)) → ℕ → Option (List ℕ)
held names its i = option_and_then (kept its) (first_named names i)

-- what a search has reached, without what is left
abbrev pub state_of : Reached → State
state_of r = record { found = r.found.items; asked = r.asked }

-- the search from these roots by these calls, as far as it goes, and what it needs to go on
pub record IsWalk (names : List Name) (may : List Bool) (roots : List ℕ) (calls : List (Place × List Place)) (w : Walk) : Type 0 where
  pub named : length names ≡ length may
  pub long : length w.known.items ≡ length may
  pub known : (i : ℕ) → held names w.known.items i ≡ ask names calls i
  pub reached : state_of w.reached ≡ walk may (ask names calls) (start roots) (length may + 1)
  pub left : IsLeft may w.reached.left.items w.reached.found.items
