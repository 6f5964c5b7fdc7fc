use Rattle.std.proofs.Common.{◌≡◌, ◌∷◌, ◌++◌, List, ℕ, true, false, None, map, drop, length, sym, ap, ◌∙◌, subst, append-nil}
use Rattle.std.specs.List.{count_by}
use Rattle.inc_query.specs.Ticks.{rise}
use Rattle.inc_roots.specs.Asked.{AsksAll}
use Rattle.inc_roots.proofs.Asking.{asked_both, ticked_more}
use Rattle.inc_engine.specs.Builds.{stale}
use Rattle.rs_lines.specs.Lines.{told}
use Rattle.rs_plans.specs.Steps.{whole}
use Rattle.rs_queries.specs.Built.{tree_index}
use Rattle.rs_units.specs.Units.{units_of}
use Rattle.plan_laws.specs.Assembled.{IsAssembled, checks_of, object_query, products_of, told_by}
use Rattle.rs_build.specs.Made.{IsNoneOf, MadeOf}
use Rattle.rs_build.specs.Over.{IsOver, setup_of, value_of}
use Rattle.rs_build.proofs.Trees.{made_is, ok_weaker, on_ok, refused_is, roots_are, some_weaker}
use Rattle.rs_build.proofs.tree.compiled_tree.Goals as goal

pub returns-then-has_error-clause-compiled : goal.returns-then-has_error-clause-compiled
returns-then-has_error-clause-compiled c s over =
    let e = c.args.engine.now in
    let tree = c.args.tree.now in
    let lines = c.in_ok-lines.ensures.lines s over ∙ ap (λ i. told (told_by (value_of e) i c.as_slice-items.result.now)) c.requires.index ∙ ap (λ ps. told (told_by (value_of e) (tree_index tree) ps)) c.as_slice-items.ensures.value in
    let errors = sym c.has_error.ensures ∙ c.if-has_error.true in
    let many = c.len-units.ensures.value ∙ ap length c.in_ok-units.ensures ∙ ap (λ i. length (units_of i)) c.requires.index in
    refused_is (value_of e) tree c.in_ok-lines.lines c.len-units.result c.in_ok-refused.field-0 lines errors many c.in_ok-refused.ensures

pub returns-then-has_error-clause-asked : goal.returns-then-has_error-clause-asked
returns-then-has_error-clause-asked c s over =
    let e = c.args.engine.now in
    let tree = c.args.tree.now in
    let lines = c.in_ok-lines.ensures.lines s over ∙ ap (λ i. told (told_by (value_of e) i c.as_slice-items.result.now)) c.requires.index ∙ ap (λ ps. told (told_by (value_of e) (tree_index tree) ps)) c.as_slice-items.ensures.value in
    let errors = sym c.has_error.ensures ∙ c.if-has_error.true in
    roots_are (setup_of e) (value_of e) tree c.in_ok-lines.lines true e.asked c.ask_checks.new.engine.asked lines errors
    (subst (λ qs. AsksAll (setup_of e) (whole 1 ∷ qs) e.asked c.ask_checks.new.engine.asked) (ap checks_of c.requires.index ∙ sym (append-nil (checks_of (tree_index tree)))) c.in_ok-lines.ensures.asked)

pub returns-clause-compiled : goal.returns-clause-compiled
returns-clause-compiled c =
    let e = c.args.engine.now in
    let tree = c.args.tree.now in
    let same = c.in_ok-lines.ensures.same in
    let errors = sym c.has_error.ensures ∙ c.if-has_error.false in
    let many = c.len-units.ensures.value ∙ ap length c.in_ok-units.ensures ∙ ap (λ i. length (units_of i)) c.requires.index in
    some_weaker (MadeOf c.in_ok-lines.lines c.as_slice-items.result.now c.len-units.result c.as_slice.result.now) (λ d. (s : List ℕ) → IsOver e s → IsAssembled (value_of e) tree d) c.made.result
    (λ d made s over.
    made_is (value_of e) tree c.in_ok-lines.lines c.len-units.result c.as_slice.result.now d
    (c.in_ok-lines.ensures.lines s over ∙ ap (λ i. told (told_by (value_of e) i c.as_slice-items.result.now)) c.requires.index ∙ ap (λ ps. told (told_by (value_of e) (tree_index tree) ps)) c.as_slice-items.ensures.value)
    errors many
    (c.as_slice.ensures.value ∙ c.in_ok-values.ensures.values s (subst (λ f. IsOver f s) (sym same) over) ∙ ap (λ f. map (value_of f) (products_of c.args.index.now)) same ∙ ap (λ i. map (value_of e) (products_of i)) c.requires.index)
    (subst (λ ps. MadeOf c.in_ok-lines.lines ps c.len-units.result c.as_slice.result.now d) c.as_slice-items.ensures.value made))
    c.made.ensures.some

pub returns-clause-none : goal.returns-clause-none
returns-clause-none c =
    let e = c.args.engine.now in
    let same = c.in_ok-lines.ensures.same in
    ok_weaker (λ o. o ≡ None → IsNoneOf (drop 1 c.as_slice.result.now)) (λ o. o ≡ None → (s : List ℕ) → IsOver e s → IsNoneOf (map (value_of e) (map object_query (units_of c.args.index.now)))) c.made.result
    (λ o h is s over.
    subst (λ vs. IsNoneOf (drop 1 vs))
    (c.as_slice.ensures.value ∙ c.in_ok-values.ensures.values s (subst (λ f. IsOver f s) (sym same) over) ∙ ap (λ f. map (value_of f) (products_of c.args.index.now)) same)
    (h is))
    c.made.ensures.none

pub returns-clause-asked : goal.returns-clause-asked
returns-clause-asked c =
    let e = c.args.engine.now in
    let tree = c.args.tree.now in
    let mid = c.ask_checks.new.engine.asked in
    let new = c.ask_products.new.engine.asked in
    let index = c.args.index.now in
    let same = c.in_ok-lines.ensures.same in
    let errors = sym c.has_error.ensures ∙ c.if-has_error.false in
    let last = subst (λ f. AsksAll (setup_of f) (products_of index) mid new) same c.in_ok-values.ensures.asked in
    let both = asked_both (setup_of e) (whole 1 ∷ checks_of index) (products_of index) e.asked mid new c.in_ok-lines.ensures.asked last in
    on_ok c.made.result
    (λ s over.
    roots_are (setup_of e) (value_of e) tree c.in_ok-lines.lines false e.asked new
    (c.in_ok-lines.ensures.lines s over ∙ ap (λ i. told (told_by (value_of e) i c.as_slice-items.result.now)) c.requires.index ∙ ap (λ ps. told (told_by (value_of e) (tree_index tree) ps)) c.as_slice-items.ensures.value)
    errors (subst (λ i. AsksAll (setup_of e) (whole 1 ∷ checks_of i ++ products_of i) e.asked new) c.requires.index both))

pub returns-clause-ticked : goal.returns-clause-ticked
returns-clause-ticked c =
    let e = c.args.engine.now in
    let mid = c.ask_checks.new.engine.asked in
    let new = c.ask_products.new.engine.asked in
    let same = c.in_ok-lines.ensures.same in
    let first = c.in_ok-lines.ensures.asked in
    let last = c.in_ok-values.ensures.asked in
    on_ok c.made.result
    (λ s over.
    ticked_more (stale (setup_of e) s) c.args.meter.now c.ask_checks.new.meter c.ask_products.new.meter e.asked first.more last.more new
    (last.are ∙ ap (λ qs. qs ++ last.more) first.are)
    (c.in_ok-lines.ensures.ticked s over ∙ ap (λ qs. rise c.args.meter.now (count_by (stale (setup_of e) s) (drop (length e.asked) qs))) first.are)
    (c.in_ok-values.ensures.ticked s (subst (λ f. IsOver f s) (sym same) over)
    ∙ ap (λ f. rise c.ask_checks.new.meter (count_by (stale (setup_of f) s) (drop (length mid) new))) same
    ∙ ap (λ qs. rise c.ask_checks.new.meter (count_by (stale (setup_of e) s) (drop (length qs) new))) first.are))
