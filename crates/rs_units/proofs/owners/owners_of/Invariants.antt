use Rattle.std.proofs.Common.{◌≡◌, ℕ, List, drop, nat_cmp}
use Rattle.std.specs.Prelude.{is_some}
use Rattle.std.specs.BTreeMap.{get_by}
use Rattle.std.specs.Cmp.Lexicographic.{slice_cmp}
use Rattle.rs_units.specs.Units.{has_own}
use Rattle.rs_units.proofs.owners.owners_of.Given as goal

abbrev pub invariant-loop-i : goal.invariant-loop-i
invariant-loop-i l = (q : List ℕ) → is_some (get_by (λ k. slice_cmp nat_cmp q k.now) l.owners) ≡ has_own (drop l.i l.items) q
