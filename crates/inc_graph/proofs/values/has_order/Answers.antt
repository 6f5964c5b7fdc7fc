use Rattle.std.proofs.Common.{◌∙◌, None}
use Rattle.std.proofs.lemmas.Bool.Decides.{Decides-at}
use Rattle.inc_graph.specs.Order.{ascends, is_value_below}
use Rattle.inc_graph.proofs.Tested.{order_decides}
use Rattle.inc_graph.proofs.values.has_order.Goals as goal

pub returns : goal.returns
returns c =
    let values = c.args.values.now in
    let test = c.ascend.ensures ∙ (λ j. ascends is_value_below None (c.as_slice.ensures.value j)) in
    Decides-at c.ascend.result (ascends is_value_below None values) test (order_decides values)
