use Rattle.std.proofs.Common.{◌≡◌, take}
use Rattle.rs_reach.specs.Places.{numbers}
use Rattle.rs_provider.proofs.walk.numbers_of.Given as goal

abbrev pub invariant-loop-place : goal.invariant-loop-place
invariant-loop-place l = l.numbers.items ≡ numbers l.places (take l.place-index l.called)
