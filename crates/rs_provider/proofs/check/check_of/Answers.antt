use Rattle.std.proofs.Common.{List, ap, ◌∙◌}
use Rattle.std.proofs.lemmas.Result.{IfOk-weaker}
use Rattle.rs_tree.specs.declared.index.Sig.{Sig}
use Rattle.rs_tree.specs.declared.place.Place.{Place}
use Rattle.rs_plans.specs.Readings.{sig_in}
use Rattle.rs_plans.specs.Steps.{query}
use Rattle.rs_provider.specs.Each.{turn_left, turn_of}
use Rattle.rs_provider.specs.Rests.{checked}
use Rattle.rs_provider.specs.declared.each.Turn.{Turn}
use Rattle.rs_provider.proofs.Resolved.{check_is}
use Rattle.rs_provider.proofs.check.check_of.Goals as goal

pub returns-in-Ok : goal.returns-in-Ok
returns-in-Ok c =
    IfOk-weaker c.checking.result _ _
    (λ s is.
    is ∙ ap (λ (t : Turn Sig). turn_left (query 3) (λ p. sig_in) t (checked c.args.of)) (c.turned.ensures ∙ ap (λ (xs : List (Place × Sig)). turn_of xs c.in-Ok.left) c.new-none.ensures)
    ∙ check_is c.args.of c.in-Ok.left (record { is = c.requires }) (c.in-Ok.ensures {u = tt}))
    c.checking.ensures
