use Rattle.std.proofs.Common.{ap, ◌∙◌, ◌++◌, not, false}
use Rattle.std.specs.Prelude.{filter, slice_index_or}
use Rattle.rs_reach.specs.Search.{State}
use Rattle.rs_units.specs.Members.{member_numbers}
use Rattle.rs_units.proofs.Searched.{searched, numbered}
use Rattle.rs_units.proofs.graph.CallGraph.numbers.Goals as goal

pub returns : goal.returns
returns c =
    let g = c.self.inside in
    let unit = c.args.unit.now in
    let own = c.in_ok-own.own.items in
    let reached = c.in_ok-reached.reached in
    let finds = c.in_ok-reached.ensures.found ∙ ap (λ (s : State). s.found) (searched unit g.items.now g.calls.now g.known.items g.marks.items g.inlines.items own c.self.invariant c.in_ok-own.ensures _ _ _ c.deref.ensures.value c.deref-2.ensures.value (c.in_ok-from_slice.ensures.items ∙ c.deref-3.ensures.value)) in
    numbered unit g.items.now g.calls.now g.known.items g.marks.items g.inlines.items own c.self.invariant c.in_ok-own.ensures reached.left.items _ reached.found.items _ c.in_ok-reached.ensures.left c.deref-2.ensures.value finds
    (c.in_ok-push_found.ensures {u = tt} ∙ (λ j. own ++ filter (λ i. not (slice_index_or (c.deref-5.ensures.value j) i false)) (c.deref-4.ensures.value j)))
    ∙ (λ j. member_numbers unit (c.self.view_is j).0 (c.self.view_is j).1)
