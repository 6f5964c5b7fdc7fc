use Rattle.std.proofs.Common.{◌≡◌, IfOk, Option, subst, ap, ◌∙◌}
use Rattle.std.specs.Prelude.{slice_get, option_and_then}
use Rattle.rs_tree.specs.declared.place.Place.{Place}
use Rattle.rs_reach.specs.Search.{State}
use Rattle.rs_units.specs.Members.{place_numbered, wanted_of}
use Rattle.rs_units.proofs.Searched.{searched}
use Rattle.rs_units.proofs.graph.CallGraph.wanted.Goals as goal

pub returns : goal.returns
returns c =
    let g = c.self.inside in
    let unit = c.args.unit.now in
    let own = c.in_ok-own.own.items in
    let same = searched unit g.items.now g.calls.now g.known.items g.marks.items g.inlines.items own c.self.invariant c.in_ok-own.ensures _ _ _ c.deref.ensures.value c.deref-2.ensures.value (λ j. own) in
    let found = c.deref-3.ensures.value ∙ c.in_ok-reached.ensures.found ∙ ap (λ (s : State). s.found) same in
    let asked = c.in_ok-reached.ensures.asked ∙ ap (λ (s : State). s.asked) same in
    let item = c.next.ensures ∙ (λ j. slice_get (found j) (asked j)) in
    let is = ap (option_and_then (place_numbered g.items.now)) item ∙ (λ j. wanted_of unit (c.self.view_is j).0 (c.self.view_is j).1) in
    subst (λ (o : Option Place). IfOk c.place_at.result (λ p. p ≡ o)) is c.place_at.ensures
