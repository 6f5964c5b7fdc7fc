use Rattle.std.proofs.Common.{rules}
use Rattle.std.proofs.lemmas.List.Sorted.{IsPartitionPoint-from_clause}
use Rattle.rs_tree.specs.Order.{place_cmp}
use Rattle.rs_tree.proofs.Orders.{place_total}
use Rattle.rs_lookup.specs.Orders.{held}
use Rattle.rs_lookup.proofs.InOrder.{before, partitioned, place_is}
use Rattle.rs_lookup.proofs.order.place_of.Goals as goal

pub returns-clause-place : goal.returns-clause-place
returns-clause-place c =
    let first = c.args.first.now in
    let key = held c.args.key in
    let point = IsPartitionPoint-from_clause (before place_cmp place_total key) first c.partition_point.result c.partition_point.ensures.partitioned (partitioned place_cmp place_total key first c.requires) (λ a r q k. search rules) in
    place_is place_cmp place_total key first c.partition_point.result c.partition_point.ensures.bound point
