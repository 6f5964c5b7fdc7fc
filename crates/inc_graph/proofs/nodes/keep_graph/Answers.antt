use Rattle.std.proofs.Common.{◌≡◌, ◌&&◌, Bool, true, false, None, refl, sym, ◌∙◌}
use Rattle.inc_graph.specs.Order.{ascends, have_reads, is_node_below}
use Rattle.inc_graph.proofs.Files.{ok_there}
use Rattle.inc_graph.proofs.Tested.{graph_decides}
use Rattle.inc_graph.proofs.nodes.keep_graph.Goals as goal

pub returns-in-Ok-true : goal.returns-in-Ok-true
returns-in-Ok-true c =
    let nodes = c.args.nodes in
    let T : Bool = ascends is_node_below None nodes && have_reads nodes nodes in
    let is = ok_there (λ b. b ≡ T) c.has_order.result c.in-Ok-true.field-0 c.in-Ok-true.is c.has_order.ensures in
    λ has. (refl, (graph_decides nodes has).0 (sym is ∙ c.in-Ok-true.field-0-test))

pub returns-in-Ok-false : goal.returns-in-Ok-false
returns-in-Ok-false c =
    let nodes = c.args.nodes in
    let T : Bool = ascends is_node_below None nodes && have_reads nodes nodes in
    let is = ok_there (λ b. b ≡ T) c.has_order.result c.in-Ok-false.field-0 c.in-Ok-false.is c.has_order.ensures in
    λ has graph. (let yes : true ≡ false = sym ((graph_decides nodes has).1 graph) ∙ sym is ∙ c.in-Ok-false.field-0-test in cc)
