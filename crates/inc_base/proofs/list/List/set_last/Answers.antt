use Rattle.std.proofs.Common.{arith, ◌≡◌, ◌-◌, ◌∙◌, ◌++◌, ◌∷◌, [], length, length-append, ap}
use Rattle.std.proofs.Math.Seq.{set-append_seam}
use Rattle.inc_base.proofs.list.List.set_last.Goals as goal

pub returns : goal.returns
returns g c = λ front last is.
    let items : c.self.inside.items.items ≡ front ++ last ∷ [] = c.self.view_is ∙ is in
    let place : c.len-last.result - 1 ≡ length front = omega (arith, c.len-last.ensures, ap length items, length-append front (last ∷ [])) in
    rw (place, items) (set-append_seam front last [] c.args.item)
