use Rattle.std.proofs.Common.{ap, sym, ◌∙◌, ℕ, List, fold, get_or, map, arith}
use Rattle.std.proofs.lemmas.List.{get_or-map}
use Rattle.rs_tree.specs.declared.tree.Placed.{Placed}
use Rattle.rs_lines.specs.Lines.{line_of, note}
use Rattle.rs_plans.specs.Steps.{query}
use Rattle.rs_queries.specs.Known.{place_of}
use Rattle.plan_laws.specs.Assembled.{diags_in, told_of}
use Rattle.rs_queries.proofs.Tellings.{tells_more}
use Rattle.rs_build.proofs.told.tell_items.Goals as goal

pub loop-i-preserved : goal.loop-i-preserved
loop-i-preserved c = λ v are.
    let now = c.loop-i.lines in
    let p = c.index-items-i.result in
    let i = c.loop-i.i in
    let items = c.args.items.now in
    let f : Placed → List ℕ = λ p. v (query 5 (place_of p)) in
    let value = c.index-values-i.is ∙ ap (λ (vs : List (List ℕ)). get_or vs i c.index-values-i.result) are ∙ get_or-map f items i p c.index-values-i.result (omega arith) ∙ ap f (sym c.index-items-i.is) in
    tells_more (told_of v) items i p c.args.lines.now now c.tell_check.new.lines (omega arith) c.index-items-i.is (c.loop-i.invariant v are)
    (c.in_ok-tell_check.ensures ∙ ap (λ bytes. fold note now (map (line_of p.start) (diags_in bytes))) value)
