use Rattle.std.proofs.Common.{sym, ◌∙◌}
use Rattle.std.proofs.lemmas.Cmp.{nat_list_cmp_total}
use Rattle.inc_products.specs.Named.{name_cmp}
use Rattle.inc_products.proofs.Places.{value_found, value_missing}
use Rattle.inc_products.proofs.named.value_at.Goals as goal

pub returns-then-stands_at : goal.returns-then-stands_at
returns-then-stands_at g c =
    value_found name_cmp nat_list_cmp_total c.args.name.now c.args.pairs.now c.place_of-place.result c.index-pairs-place.result c.requires c.place_of-place.ensures.place (sym c.stands_at.ensures.test ∙ c.if-stands_at.true)

pub returns-else-stands_at : goal.returns-else-stands_at
returns-else-stands_at g c =
    value_missing name_cmp nat_list_cmp_total c.args.name.now c.args.pairs.now c.place_of-place.result c.requires c.place_of-place.ensures.place (sym c.stands_at.ensures.test ∙ c.if-stands_at.false)
