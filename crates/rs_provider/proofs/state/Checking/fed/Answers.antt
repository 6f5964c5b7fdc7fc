use Rattle.std.proofs.Common.{sym, ◌∙◌}
use Rattle.std.proofs.lemmas.Result.{IfOk-weaker}
use Rattle.rs_plans.specs.Readings.{sig_in}
use Rattle.rs_plans.specs.Steps.{query}
use Rattle.rs_provider.specs.Rests.{checked}
use Rattle.rs_provider.proofs.Turns.{turn_goes_on}
use Rattle.rs_provider.proofs.Follows.{with_some}
use Rattle.rs_provider.proofs.state.Checking.fed.Goals as goal

pub returns-in-Ok-Some : goal.returns-in-Ok-Some
returns-in-Ok-Some c =
    let self = c.args.self in
    IfOk-weaker c.with.result _ _
    (λ s is.
    is ∙ turn_goes_on (query 3) (λ p. sig_in) (checked self.of) self.each.done self.each.next c.in-Ok-Some.sig self.each.left
    ∙ sym (with_some _ c.in-Ok-Some.sig _ (sym (c.in-Ok-Some.ensures {u = tt}) ∙ c.in-Ok-Some.field-0-is)))
    c.with.ensures
