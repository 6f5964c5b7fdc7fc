use Rattle.std.proofs.Common.{IsTrue, ◌↔◌, true, subst}
use Rattle.std.proofs.lemmas.Result.{IfOk-weaker}
use Rattle.inc_products.specs.Fronts.{BeginsWith}
use Rattle.inc_products.specs.Loads.{HoldsKept}
use Rattle.inc_products.specs.Starts.{IsWellCache}
use Rattle.inc_products.proofs.Reading.{like}
use Rattle.inc_products.proofs.judge.is_well_cache.Goals as goal

pub returns : goal.returns
returns c =
    let want = c.args.want.now in
    let nodes = c.args.nodes.now in
    let bytes = c.args.bytes.now in
    let begins : BeginsWith want bytes true = subst (λ z. BeginsWith want z true) c.as_slice.ensures.value (subst (BeginsWith want c.as_slice.result.now) c.if-not-branch.false c.in_ok-begins_with.ensures.is) in
    IfOk-weaker c.holds_kept.result (λ is. IsTrue is ↔ HoldsKept nodes bytes) (λ is. IsTrue is ↔ IsWellCache want nodes bytes) (like bytes nodes want c.in_ok-begins_with.ensures.header begins) c.holds_kept.ensures
