use Rattle.std.proofs.Common.{sym, ◌∙◌}
use Rattle.std.specs.Ordering.{nat_cmp}
use Rattle.std.proofs.lemmas.Cmp.{nat_cmp_total}
use Rattle.inc_products.proofs.Places.{value_found, value_missing}
use Rattle.inc_products.proofs.saved.value_at.Goals as goal

pub returns-then-stands_at : goal.returns-then-stands_at
returns-then-stands_at c =
    value_found nat_cmp nat_cmp_total c.args.at c.args.values.now c.place_of-place.result c.index-values-place.result c.requires c.place_of-place.ensures (sym c.stands_at.ensures.test ∙ c.if-stands_at.true)

pub returns-else-stands_at : goal.returns-else-stands_at
returns-else-stands_at c =
    value_missing nat_cmp nat_cmp_total c.args.at c.args.values.now c.place_of-place.result c.requires c.place_of-place.ensures (sym c.stands_at.ensures.test ∙ c.if-stands_at.false)
