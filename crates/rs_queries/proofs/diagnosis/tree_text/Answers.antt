use Rattle.std.proofs.Common.{subst}
use Rattle.std.proofs.lemmas.Result.{IfOk-weaker}
use Rattle.rs_queries.specs.State.{SaysItems}
use Rattle.rs_queries.proofs.Wholes.{says_tree}
use Rattle.rs_queries.proofs.diagnosis.tree_text.Goals as goal

pub returns : goal.returns
returns c =
    let index = c.in_ok-index.index in
    IfOk-weaker c.indexed_text.result _ _ (λ out s. says_tree c.args.tree.now index out c.in_ok-index.ensures
    (subst (λ ps. SaysItems index.items ps out) c.as_slice.ensures.value s)) c.indexed_text.ensures
