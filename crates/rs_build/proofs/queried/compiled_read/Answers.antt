use Rattle.std.proofs.Common.{List, ℕ, sym, ap, ◌∙◌, subst}
use Rattle.rs_queries.specs.Reading.{what_was_read}
use Rattle.plan_laws.specs.Assembled.{IsAssembled, roots_read}
use Rattle.rs_build.specs.Over.{IsOver, IsReadAssembled, WasAsked, value_of}
use Rattle.rs_build.proofs.Reaches.{on_ok_weaker, tree_assembled}
use Rattle.rs_build.proofs.Trees.{ok_weaker}
use Rattle.rs_build.proofs.queried.compiled_read.Goals as goal

pub returns-in-Tree-clause-compiled : goal.returns-in-Tree-clause-compiled
returns-in-Tree-clause-compiled c =
    let e = c.args.engine.now in
    let tree = c.in-Tree.tree in
    let is = c.requires ∙ ap what_was_read c.in-Tree.is in
    ok_weaker (λ d. (s : List ℕ) → IsOver e s → IsAssembled (value_of e) tree d) (λ d. (s : List ℕ) → IsOver e s → IsReadAssembled (value_of e) e.input c.args.compiler.level d) c.compiled_text.result
    (λ d made s over. tree_assembled (value_of e) e.input c.args.compiler.level tree d is (made s over)) c.compiled_text.ensures.compiled

pub returns-in-Tree-clause-asked : goal.returns-in-Tree-clause-asked
returns-in-Tree-clause-asked c =
    let e = c.args.engine.now in
    let is = c.requires ∙ ap what_was_read c.in-Tree.is in
    on_ok_weaker c.compiled_text.result (λ asks s over. subst (λ t. WasAsked (roots_read (value_of e) t) e c.compiled_text.new.engine) (sym is) (asks s over)) c.compiled_text.ensures.asked
