use Rattle.rs_provider.proofs.News.{AreSeen}
use Rattle.rs_provider.proofs.names.are_new.Given as goal

abbrev pub invariant-loop-place : goal.invariant-loop-place
invariant-loop-place l = AreSeen l.seen l.places l.place-index
