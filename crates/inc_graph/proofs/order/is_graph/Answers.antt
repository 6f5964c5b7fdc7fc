use Rattle.std.proofs.Common.{◌≡◌, ◌↔◌, ◌&&◌, Bool, IsTrue, None, All, subst}
use Rattle.std.proofs.lemmas.Bool.Decides.{Decides-at}
use Rattle.std.proofs.lemmas.Result.{IfOk-weaker}
use Rattle.inc_graph.specs.Graphs.{HasQuery, IsGraph}
use Rattle.inc_graph.specs.Order.{ascends, have_reads, is_node_below}
use Rattle.inc_graph.proofs.Tested.{graph_decides}
use Rattle.inc_graph.proofs.order.is_graph.Goals as goal

pub returns : goal.returns
returns c =
    let nodes = c.args.nodes.now in
    let T : Bool = ascends is_node_below None nodes && have_reads nodes nodes in
    let has : All HasQuery nodes = subst (All HasQuery) c.as_slice.ensures.value (c.have_queries.ensures.0 c.if-not-have_queries.false) in
    IfOk-weaker c.has_order.result (λ is. is ≡ T) (λ is. IsTrue is ↔ IsGraph nodes) (λ is e. Decides-at is T e (graph_decides nodes has)) c.has_order.ensures
