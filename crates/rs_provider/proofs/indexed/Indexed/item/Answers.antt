use Rattle.std.proofs.Common.{ap, ◌∙◌}
use Rattle.std.specs.Prelude.{option_and_then, slice_get}
use Rattle.rs_tree.specs.declared.index.Index.{Index}
use Rattle.rs_lookup.specs.Places.{place_from, place_name}
use Rattle.rs_names.specs.Resolved.{item_at}
use Rattle.rs_names.proofs.NamedItems.{found_by}
use Rattle.rs_provider.proofs.indexed.Indexed.item.Goals as goal

pub returns : goal.returns
returns c =
    let name = place_name c.args.at.now in
    let order = c.self.inside.order in
    c.numbered.ensures
    ∙ ap (λ xs. option_and_then (slice_get xs) c.find-number.result) c.as_slice-3.ensures.value
    ∙ found_by name c.self.inside.index.items order c.find-number.result (c.find-number.ensures ∙ (λ j. place_from (c.as_slice.ensures.value j, c.as_slice-2.ensures.value j) 0 order)) c.self.invariant
    ∙ ap (λ (i : Index). item_at name i.items) c.self.view_is
