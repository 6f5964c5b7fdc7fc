use Rattle.std.proofs.Common.{◌≡◌, ap, ◌∙◌, rules}
use Rattle.std.specs.Prelude.{Some}
use Rattle.rs_plans.specs.Readings.{item_in}
use Rattle.rs_provider.proofs.Keeping.{item_of_kept}
use Rattle.rs_provider.proofs.items.Items.kept.Goals as goal

pub returns : goal.returns
returns c =
    let same : c.in-Some.read.now.bytes ≡ c.args.value.now = search rules in
    ap Some (c.in_ok-item-in-Some.ensures {u = tt}).cases ∙ item_of_kept c.in-Some.read.now.bytes c.in-Some.read.now.item.value c.in-Some.read.now.is ∙ ap item_in same
