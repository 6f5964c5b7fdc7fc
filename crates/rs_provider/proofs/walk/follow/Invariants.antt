use Rattle.std.proofs.Common.{◌≡◌, Bool, List}
use Rattle.rs_reach.specs.Search.{walk}
use Rattle.rs_reach.specs.Places.{IsLeft}
use Rattle.rs_provider.specs.Walks.{held}
use Rattle.rs_provider.proofs.walk.follow.Given as goal

abbrev pub invariant-steps : goal.invariant-steps
invariant-steps l = record {
  found : (may : List Bool) → IsLeft may l.initial.left.items l.initial.found.items → l.found.items ≡ (walk may (held l.places l.known) (record { found = l.initial.found.items; asked = l.initial.asked }) l.counter).found;
  asked : (may : List Bool) → IsLeft may l.initial.left.items l.initial.found.items → l.asked ≡ (walk may (held l.places l.known) (record { found = l.initial.found.items; asked = l.initial.asked }) l.counter).asked;
  left : (may : List Bool) → IsLeft may l.initial.left.items l.initial.found.items → IsLeft may l.left.items l.found.items;
}
