use Rattle.inc_graph.proofs.GraphFronts.{print_taken}
use Rattle.inc_graph.proofs.nodes.take_print.Goals as goal

pub returns : goal.returns
returns c =
    let taken = c.in_ok-front.ensures.some in
    print_taken c.args.from.now c.in_ok-front.front.now c.bytes.new.self c.in-Some.bytes.now taken.0 taken.1 c.in-Some.ensures.cases.same
