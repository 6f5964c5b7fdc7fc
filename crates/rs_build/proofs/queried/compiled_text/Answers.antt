use Rattle.std.proofs.Common.{◌≡◌, true, sym, subst}
use Rattle.rs_plans.specs.Names.{is_index}
use Rattle.plan_laws.proofs.Index.{index_passes, tidy_tree}
use Rattle.rs_build.proofs.queried.compiled_text.Goals as goal

pub compiled_tree-requires-clause-names : goal.compiled_tree-requires-clause-names
compiled_tree-requires-clause-names c =
    let tree = c.args.tree.now in
    subst (λ i. is_index i ≡ true) (sym c.in_ok-index.ensures) (index_passes c.trees_are_tidy.ensures.names tree (tidy_tree c.texts_are_read.ensures.text c.trees_are_tidy.ensures.tidy c.args.engine.now.input tree c.requires))
