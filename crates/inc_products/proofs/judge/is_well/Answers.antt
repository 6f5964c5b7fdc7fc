use Rattle.std.proofs.Common.{IfOk, IsTrue, ◌↔◌, sym, subst}
use Rattle.inc_products.specs.Starts.{IsWell, IsWellObject}
use Rattle.inc_products.proofs.judge.is_well.Goals as goal

pub returns-in-Cache : goal.returns-in-Cache
returns-in-Cache c = subst (λ p. IfOk c.is_well_cache.result (λ is. IsTrue is ↔ IsWell c.args.want.now c.args.nodes.now p c.args.bytes.now)) (sym c.in-Cache.is) c.is_well_cache.ensures

pub returns-in-Object : goal.returns-in-Object
returns-in-Object c =
    subst (λ p. IfOk c.is_well_object.result (λ is. IsTrue is ↔ IsWell c.args.want.now c.args.nodes.now p c.args.bytes.now)) (sym c.in-Object.is)
    (subst (λ nodes. IfOk c.is_well_object.result (λ is. IsTrue is ↔ IsWellObject nodes c.in-Object.at c.args.bytes.now)) c.as_slice-in-Object.ensures.value c.is_well_object.ensures)
