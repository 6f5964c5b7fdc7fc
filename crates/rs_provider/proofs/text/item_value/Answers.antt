use Rattle.std.proofs.Common.{ap, ◌∙◌}
use Rattle.std.proofs.lemmas.Result.{IfOk-weaker}
use Rattle.rs_lookup.specs.Places.{place_name}
use Rattle.rs_queries.specs.Reading.{what_was_read}
use Rattle.rs_queries.specs.declared.reading.Reading.{Reading}
use Rattle.rs_plans.specs.Plans.{item_value}
use Rattle.rs_provider.proofs.Keeping.{item_of_read}
use Rattle.rs_provider.proofs.text.item_value.Goals as goal

pub returns : goal.returns
returns c =
    let name = place_name c.args.at.now in
    IfOk-weaker c.item_found.result _ _
    (λ v e. item_of_read c.args.text.now c.in_ok-read.read.value name v (c.in_ok-read.ensures {u = tt}) (e ∙ ap (λ (r : Reading). item_value name (what_was_read r)) c.as_ref.ensures))
    c.item_found.ensures
