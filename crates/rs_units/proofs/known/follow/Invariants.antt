use Rattle.std.proofs.Common.{◌≡◌}
use Rattle.rs_reach.specs.Search.{start, walk}
use Rattle.rs_reach.specs.Places.{IsLeft}
use Rattle.rs_units.specs.Ready.{kept}
use Rattle.rs_units.proofs.known.follow.Given as goal

abbrev pub invariant-steps : goal.invariant-steps
invariant-steps l = record {
  counted : l.asked ≡ l.counter;
  found : l.found.items ≡ (walk l.marks (kept l.known) (start l.initial.found.items) l.asked).found;
  asked : l.asked ≡ (walk l.marks (kept l.known) (start l.initial.found.items) l.asked).asked;
  left : IsLeft l.marks l.left.items l.found.items;
}
