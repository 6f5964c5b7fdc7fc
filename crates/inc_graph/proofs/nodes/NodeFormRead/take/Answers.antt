use Rattle.inc_wire.specs.Narrow.{narrow_none, took_none, took_some}
use Rattle.inc_graph.specs.Forms.{HasRanges, node_form}
use Rattle.inc_graph.specs.Graphs.{HasQuery}
use Rattle.inc_graph.proofs.Keeping.{takes_kept}
use Rattle.inc_graph.proofs.nodes.NodeFormRead.take.Goals as goal

pub returns : goal.returns
returns c =
    takes_kept HasRanges HasQuery node_form c.args.from.now c.take_node.new.from c.in-Some.node c.keep_node.result
    (took_some HasRanges node_form c.args.from.now c.take_node.new.from c.in_ok-node.field-0 c.in-Some.node c.in-Some.is c.in_ok-node.ensures) c.keep_node.ensures

pub returns-in_default : goal.returns-in_default
returns-in_default c =
    narrow_none HasRanges HasQuery node_form c.args.from.now
    (took_none HasRanges node_form c.args.from.now c.take_node.new.from c.in_ok-node.field-0 c.in_default.is c.in_ok-node.ensures)
