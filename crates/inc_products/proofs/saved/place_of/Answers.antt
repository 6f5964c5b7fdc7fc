use Rattle.std.proofs.Common.{rules}
use Rattle.std.specs.Ordering.{nat_cmp}
use Rattle.std.proofs.lemmas.Cmp.{nat_cmp_total}
use Rattle.std.proofs.lemmas.List.Sorted.{IsPartitionPoint-from_clause}
use Rattle.inc_products.proofs.Places.{before, partitioned, place_is}
use Rattle.inc_products.proofs.saved.place_of.Goals as goal

pub returns : goal.returns
returns c =
    let values = c.args.values.now in
    let at = c.args.at in
    let point = IsPartitionPoint-from_clause (before nat_cmp nat_cmp_total at) values c.partition_point.result c.partition_point.ensures.partitioned (partitioned nat_cmp nat_cmp_total at values c.requires) (λ a r q k. search rules) in
    place_is nat_cmp nat_cmp_total at values c.partition_point.result c.partition_point.ensures.bound point
