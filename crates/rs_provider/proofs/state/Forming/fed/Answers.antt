use Rattle.std.proofs.Common.{sym, ap, ◌∙◌}
use Rattle.std.proofs.lemmas.Result.{IfOk-weaker}
use Rattle.rs_tree.specs.declared.index.Index.{Index}
use Rattle.rs_plans.specs.Plans.{use_in, use_query}
use Rattle.rs_provider.specs.Rests.{form_left}
use Rattle.rs_provider.proofs.Turns.{turn_goes_on}
use Rattle.rs_provider.proofs.Follows.{with_some}
use Rattle.rs_provider.proofs.state.Forming.fed.Goals as goal

pub returns-in-Ok-Some : goal.returns-in-Ok-Some
returns-in-Ok-Some c =
    let self = c.args.self in
    let read = ap (λ (index : Index). use_in index self.each.next c.args.value.now) (sym c.as_ref.ensures) ∙ sym (c.in-Ok-Some.ensures {u = tt}) ∙ c.in-Ok-Some.field-0-is in
    IfOk-weaker c.with.result _ _
    (λ s is.
    is ∙ turn_goes_on (use_query self.of.index.value) (use_in self.of.index.value) (form_left self.level self.of) self.each.done self.each.next c.in-Ok-Some.one self.each.left
    ∙ sym (with_some (use_in self.of.index.value self.each.next c.args.value.now) c.in-Ok-Some.one _ read))
    c.with.ensures
