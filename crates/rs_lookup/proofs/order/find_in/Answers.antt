use Rattle.std.proofs.Common.{sym, ◌∙◌}
use Rattle.rs_tree.specs.Order.{place_cmp}
use Rattle.rs_tree.proofs.Orders.{place_total}
use Rattle.rs_lookup.specs.Orders.{held}
use Rattle.rs_lookup.proofs.InOrder.{value_found, value_missing}
use Rattle.rs_lookup.proofs.order.find_in.Goals as goal

pub returns-then-stands_at : goal.returns-then-stands_at
returns-then-stands_at c =
    value_found place_cmp place_total (held c.args.key) c.args.first.now c.place_of-at.result c.index-first-at.result c.requires c.place_of-at.ensures.place (sym c.stands_at.ensures.test ∙ c.if-stands_at.true)

pub returns-else-stands_at : goal.returns-else-stands_at
returns-else-stands_at c =
    value_missing place_cmp place_total (held c.args.key) c.args.first.now c.place_of-at.result c.requires c.place_of-at.ensures.place (sym c.stands_at.ensures.test ∙ c.if-stands_at.false)
