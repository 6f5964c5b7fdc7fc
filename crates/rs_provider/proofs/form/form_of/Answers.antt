use Rattle.std.proofs.Common.{List, ap, ◌∙◌}
use Rattle.std.proofs.lemmas.Result.{IfOk-weaker}
use Rattle.rs_tree.specs.declared.place.Place.{Place}
use Rattle.rs_plans.specs.Plans.{Use, use_in, use_query}
use Rattle.rs_provider.specs.Each.{turn_left, turn_of}
use Rattle.rs_provider.specs.Rests.{form_left}
use Rattle.rs_provider.specs.declared.each.Turn.{Turn}
use Rattle.rs_provider.proofs.Resolved.{form_is}
use Rattle.rs_provider.proofs.form.form_of.Goals as goal

pub returns-in-Ok : goal.returns-in-Ok
returns-in-Ok c =
    let r = c.args.of in
    IfOk-weaker c.forming.result _ _
    (λ s is.
    is ∙ ap (λ (t : Turn Use). turn_left (use_query r.index.value) (use_in r.index.value) t (form_left c.args.level r)) (c.turned.ensures ∙ ap (λ (xs : List (Place × Use)). turn_of xs c.in-Ok.left) c.new-none.ensures)
    ∙ form_is c.args.level r c.in-Ok.left (record { is = c.requires }) (c.in-Ok.ensures {u = tt}))
    c.forming.ensures
