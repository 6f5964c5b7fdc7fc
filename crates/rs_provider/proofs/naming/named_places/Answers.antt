use Rattle.std.proofs.Common.{sym, ◌∙◌, arith}
use Rattle.std.proofs.lemmas.List.{at_drop_all}
use Rattle.rs_plans.specs.Plans.{places_found}
use Rattle.rs_provider.specs.Naming.{with_new}
use Rattle.rs_provider.proofs.Named.{gathered_once}
use Rattle.rs_provider.proofs.naming.named_places.Goals as goal

pub returns : goal.returns
returns c =
    sym (at_drop_all (λ xs. with_new c.loop-one.places (places_found xs)) c.args.found.now c.loop-one.one-index (omega arith)) ∙ c.loop-one.invariant.0 ∙ gathered_once (places_found c.args.found.now)
