use Rattle.std.proofs.Common.{subst}
use Rattle.std.proofs.lemmas.Result.{IfOk-weaker}
use Rattle.rs_queries.specs.State.{IsItemsCompiled}
use Rattle.rs_queries.proofs.Wholes.{compiled_tree}
use Rattle.rs_queries.proofs.compiling.compile_tree.Goals as goal

pub returns : goal.returns
returns c =
    let index = c.in_ok-index.index in
    record {
      is = IfOk-weaker c.compile_items.result _ _ (λ out s. compiled_tree c.args.tree.now index c.args.level out c.in_ok-index.ensures
          (subst (λ ps. IsItemsCompiled index ps c.args.level out) c.as_slice.ensures.value s)) c.compile_items.ensures.is;
      emitted = c.compile_items.ensures.emitted;
    }
