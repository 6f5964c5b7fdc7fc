use Rattle.std.proofs.Common.{rules}
use Rattle.std.proofs.lemmas.Cmp.{nat_list_cmp_total}
use Rattle.std.proofs.lemmas.List.Sorted.{IsPartitionPoint-from_clause}
use Rattle.inc_products.specs.Named.{name_cmp}
use Rattle.inc_products.proofs.Places.{before, partitioned, place_is}
use Rattle.inc_products.proofs.named.place_of.Goals as goal

pub returns-clause-place : goal.returns-clause-place
returns-clause-place g c =
    let pairs = c.args.pairs.now in
    let name = c.args.name.now in
    let point = IsPartitionPoint-from_clause (before name_cmp nat_list_cmp_total name) pairs c.partition_point.result c.partition_point.ensures.partitioned (partitioned name_cmp nat_list_cmp_total name pairs c.requires) (λ a r q k. search rules) in
    place_is name_cmp nat_list_cmp_total name pairs c.partition_point.result c.partition_point.ensures.bound point
