-- Places as a map has them.
use Rattle.std.specs.Prelude.{◌≡◌, ℕ, List}
use Rattle.std.specs.Ordering.{nat_cmp, ordering_then}
use Rattle.std.specs.Cmp.Lexicographic.{slice_cmp}
use Rattle.std.specs.Borrow.{Bor}
use Rattle.std.specs.BTreeMap.{get}
use Rattle.std.specs.declared.cmp.Ordering.{Ordering}
use Rattle.std.specs.declared.collections.BTreeMap.{BTreeMap}
use Rattle.std.specs.declared.alloc.Global.{Global}
use Rattle.rs_lookup.specs.Places.{Name, place_from}

abbrev pub Held : Type 0
Held = Bor (List ℕ) × Bor (List ℕ)

abbrev pub plain : Held → Name
plain k = (k.0.now, k.1.now)

abbrev pub held_cmp : Held → Held → Ordering
held_cmp a b = ordering_then (slice_cmp nat_cmp a.0.now b.0.now) (slice_cmp nat_cmp a.1.now b.1.now)

-- the map leads each place to the first that is equal
pub record Leads (first : BTreeMap Held ℕ Global) (names : List Name) : Type 0 where
  pub each : (q : Held) → get held_cmp first q ≡ place_from (plain q) 0 names
