use Rattle.std.proofs.Common.{◌≡◌, Bool, List}
use Rattle.rs_reach.specs.Search.{start, walk}
use Rattle.rs_reach.specs.Places.{IsLeft}
use Rattle.rs_reach.specs.Reached.{named}
use Rattle.rs_reach.proofs.reached.follow.Given as goal

abbrev pub invariant-steps : goal.invariant-steps
invariant-steps l = record {
  counted : l.asked ≡ l.counter;
  found : (may : List Bool) → IsLeft may l.initial.left.items l.initial.found.items → l.found.items ≡ (walk may (named l.names) (start l.initial.found.items) l.asked).found;
  asked : (may : List Bool) → IsLeft may l.initial.left.items l.initial.found.items → l.asked ≡ (walk may (named l.names) (start l.initial.found.items) l.asked).asked;
  left : (may : List Bool) → IsLeft may l.initial.left.items l.initial.found.items → IsLeft may l.left.items l.found.items;
}
