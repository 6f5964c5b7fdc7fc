use Rattle.std.proofs.Common.{sym, ◌∙◌}
use Rattle.std.proofs.lemmas.Result.{IfOk-weaker}
use Rattle.rs_plans.specs.Readings.{ir_in}
use Rattle.rs_plans.specs.Steps.{query}
use Rattle.rs_provider.specs.Rests.{object_by}
use Rattle.rs_provider.proofs.Turns.{turn_goes_on}
use Rattle.rs_provider.proofs.Follows.{with_some}
use Rattle.rs_provider.proofs.state.Gathering.fed.Goals as goal

pub returns-in-Ok-Some : goal.returns-in-Ok-Some
returns-in-Ok-Some c =
    let self = c.args.self in
    IfOk-weaker c.with.result _ _
    (λ s is.
    is ∙ turn_goes_on (query 9) (λ p. ir_in) (object_by self.unit) self.each.done self.each.next c.in-Ok-Some.ir self.each.left
    ∙ sym (with_some _ c.in-Ok-Some.ir _ (sym (c.in-Ok-Some.ensures {u = tt}) ∙ c.in-Ok-Some.field-0-is)))
    c.with.ensures
