use Rattle.std.proofs.Common.{All}
use Rattle.std.proofs.lemmas.Result.{IfOk-weaker}
use Rattle.inc_wire.specs.Fits.{FitsList}
use Rattle.inc_wire.specs.Narrow.{narrow_none, took_none, took_some}
use Rattle.inc_wire.specs.Readings.{Takes}
use Rattle.inc_graph.specs.Forms.{FitsGraph, FitsNode, graph_form}
use Rattle.inc_graph.specs.Graphs.{HasQuery, IsGraph}
use Rattle.inc_graph.specs.Kept.{IsKept}
use Rattle.inc_graph.proofs.Keeping.{queries_fit, takes_kept}
use Rattle.inc_graph.proofs.nodes.GraphFormRead.take.Goals as goal

pub returns : goal.returns
returns c =
    let before = c.args.from.now in
    let after = c.take_list.new.from in
    let nodes = c.in-Some.nodes in
    let took = took_some (FitsList FitsNode) graph_form before after c.in_ok-nodes.field-0 nodes c.in-Some.is c.in_ok-nodes.ensures in
    IfOk-weaker c.keep_graph.result (λ kept. All HasQuery nodes → IsKept IsGraph nodes kept) (λ kept. Takes FitsGraph graph_form before after kept)
    (λ kept is. takes_kept (FitsList FitsNode) IsGraph graph_form before after nodes kept took (is (queries_fit nodes took.fits))) c.keep_graph.ensures

pub returns-in_default : goal.returns-in_default
returns-in_default c =
    narrow_none (FitsList FitsNode) IsGraph graph_form c.args.from.now
    (took_none (FitsList FitsNode) graph_form c.args.from.now c.take_list.new.from c.in_ok-nodes.field-0 c.in_default.is c.in_ok-nodes.ensures)
