use Rattle.std.proofs.Common.{◌≡◌, None, drop}
use Rattle.std.specs.Option.{option_copied}
use Rattle.inc_graph.specs.Order.{ascends, is_value_below}
use Rattle.inc_graph.proofs.values.ascend.Given as goal

abbrev pub invariant-loop-value : goal.invariant-loop-value
invariant-loop-value l = ascends is_value_below (option_copied l.before) (drop l.value-index l.values) ≡ ascends is_value_below None l.values
