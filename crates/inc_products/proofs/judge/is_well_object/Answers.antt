use Rattle.std.proofs.Common.{IsTrue, ◌↔◌, ◌≡◌, ◌∙◌, ap, sym, true}
use Rattle.std.proofs.lemmas.Result.{IfOk-weaker}
use Rattle.inc_products.specs.Loads.{has_print_at}
use Rattle.inc_products.specs.Starts.{IsObject, IsWellObject}
use Rattle.inc_products.proofs.Reading.{with_print}
use Rattle.inc_products.proofs.judge.is_well_object.Goals as goal

pub returns : goal.returns
returns c =
    let nodes = c.args.nodes.now in
    let bytes = c.args.bytes.now in
    let on : has_print_at nodes c.args.at bytes ≡ true = ap (has_print_at nodes c.args.at) (sym c.as_slice.ensures.value) ∙ sym c.has_print_at.ensures ∙ c.if-not-has_print_at.false in
    IfOk-weaker c.is_object.result (λ is. IsTrue is ↔ IsObject bytes) (λ is. IsTrue is ↔ IsWellObject nodes c.args.at bytes) (with_print nodes c.args.at bytes on) c.is_object.ensures
