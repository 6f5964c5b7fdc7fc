use Rattle.std.proofs.Common.{sym, subst, refl}
use Rattle.inc_wire.specs.Readings.{IsTaken}
use Rattle.inc_wire.specs.Narrow.{as_none, as_taken, took_none, took_some}
use Rattle.inc_graph.specs.declared.node.Node.{Node}
use Rattle.inc_graph.specs.Forms.{HasRanges, node_form, node_of, parts_of}
use Rattle.inc_graph.proofs.GraphFronts.{PartsFit, parts_fit, parts_form, ranges_of}
use Rattle.inc_graph.proofs.nodes.take_node.Goals as goal

pub returns : goal.returns
returns c =
    let before = c.args.from.now in
    let after = c.take.new.from in
    let parts = c.in-Some.parts in
    subst (λ (x : Node). IsTaken HasRanges node_form before after x) (sym c.node_of.ensures)
    (as_taken PartsFit parts_form HasRanges node_form node_of parts_of ranges_of parts_fit (λ p. refl) (λ x. refl) (λ x. refl) before after parts
    (took_some PartsFit parts_form before after c.in_ok-parts.field-0 parts c.in-Some.is c.in_ok-parts.ensures))

pub returns-in_default : goal.returns-in_default
returns-in_default c =
    as_none PartsFit parts_form HasRanges node_form node_of parts_of parts_fit (λ x. refl) c.args.from.now
    (took_none PartsFit parts_form c.args.from.now c.take.new.from c.in_ok-parts.field-0 c.in_default.is c.in_ok-parts.ensures)
