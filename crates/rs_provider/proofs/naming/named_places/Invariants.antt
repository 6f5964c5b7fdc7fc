use Rattle.std.proofs.Common.{◌≡◌, [], drop}
use Rattle.rs_plans.specs.Plans.{places_found}
use Rattle.rs_provider.specs.Naming.{HaveSame, with_new}
use Rattle.rs_provider.proofs.naming.named_places.Given as goal

abbrev pub invariant-loop-one : goal.invariant-loop-one
invariant-loop-one l = (with_new l.places (places_found (drop l.one-index l.found)) ≡ with_new [] (places_found l.found)) × HaveSame l.seen l.places
