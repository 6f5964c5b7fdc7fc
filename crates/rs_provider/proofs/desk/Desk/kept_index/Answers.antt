use Rattle.std.proofs.Common.{◌≡◌, ap, ◌∙◌, rules}
use Rattle.std.specs.Prelude.{Some}
use Rattle.rs_plans.specs.Readings.{index_in}
use Rattle.rs_provider.proofs.Keeping.{index_of_kept}
use Rattle.rs_provider.proofs.desk.Desk.kept_index.Goals as goal

pub returns : goal.returns
returns c =
    let same : c.in-Some.read.bytes ≡ c.args.value.now = search rules in
    ap Some (c.in_ok-index-in-Some.ensures {u = tt}).cases ∙ index_of_kept c.in-Some.read.bytes c.in-Some.read.index.value c.in-Some.read.is ∙ ap index_in same
