use Rattle.std.proofs.Common.{List, ap, ◌∙◌}
use Rattle.std.proofs.lemmas.Result.{IfOk-weaker}
use Rattle.rs_tree.specs.declared.ir.Ir.{Ir}
use Rattle.rs_tree.specs.declared.place.Place.{Place}
use Rattle.rs_plans.specs.Readings.{ir_in}
use Rattle.rs_plans.specs.Steps.{ask_each, query}
use Rattle.rs_provider.specs.Each.{turn_left, turn_of}
use Rattle.rs_provider.specs.Rests.{object_by}
use Rattle.rs_provider.specs.declared.each.Turn.{Turn}
use Rattle.rs_provider.proofs.Turns.{turn_begins}
use Rattle.rs_provider.proofs.object.gathered.Goals as goal

pub returns-in-Ok : goal.returns-in-Ok
returns-in-Ok c =
    IfOk-weaker c.gathering.result _ _
    (λ s is.
    is ∙ ap (λ (t : Turn Ir). turn_left (query 9) (λ p. ir_in) t (object_by c.args.unit)) (c.turned.ensures ∙ ap (λ (xs : List (Place × Ir)). turn_of xs c.in-Ok.left) c.new-none.ensures)
    ∙ turn_begins (query 9) (λ p. ir_in) (object_by c.args.unit) c.in-Ok.left
    ∙ ap (λ ps. ask_each (query 9) (λ p. ir_in) ps (object_by c.args.unit)) (c.in-Ok.ensures {u = tt}))
    c.gathering.ensures
