use Rattle.std.proofs.Common.{◌≡◌, ap, sym, ◌∙◌}
use Rattle.std.specs.Prelude.{option_and_then, slice_get}
use Rattle.std.specs.Option.{option_map}
use Rattle.rs_tree.specs.declared.tree.Placed.{Placed}
use Rattle.rs_lookup.specs.Places.{place_from, place_name}
use Rattle.rs_queries.specs.declared.reading.Reading.TheVariants.{Tree}
use Rattle.rs_provider.specs.Readied.{item_read, names_read}
use Rattle.rs_provider.proofs.Placing.{placed_by}
use Rattle.rs_provider.proofs.readied.Readied.item.Goals as goal

pub returns-in-Tree : goal.returns-in-Tree
returns-in-Tree c =
    let name = place_name c.args.at.now in
    let order = c.self.inside.order in
    let is : c.self.inside.reading.value ≡ Tree c.in-Tree.tree = sym c.as_ref.ensures ∙ c.in-Tree.is in
    c.numbered.ensures
    ∙ ap (λ xs. option_map (λ (p : Placed). p.item) (option_and_then (slice_get xs) c.find-number.result)) c.as_slice-in-Tree-2.ensures.value
    ∙ placed_by name c.in-Tree.tree.items order c.find-number.result (c.find-number.ensures ∙ (λ j. place_from (c.as_slice.ensures.value j, c.as_slice-in-Tree.ensures.value j) 0 order)) (c.self.invariant ∙ ap names_read is)
    ∙ ap (item_read name) (sym is ∙ c.self.view_is)
