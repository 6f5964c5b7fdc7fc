use Rattle.std.proofs.Common.{ap, ◌∙◌}
use Rattle.std.proofs.lemmas.Result.{IfOk-weaker}
use Rattle.rs_queries.specs.Reading.{what_was_read}
use Rattle.rs_queries.specs.declared.reading.Reading.{Reading}
use Rattle.rs_plans.specs.Plans.{index_by}
use Rattle.rs_provider.proofs.Keeping.{index_of_read}
use Rattle.rs_provider.proofs.text.index_value.Goals as goal

pub returns : goal.returns
returns c =
    IfOk-weaker c.index_read.result _ _
    (λ v e. index_of_read c.args.text.now c.in_ok-read.read.value v (c.in_ok-read.ensures {u = tt}) (e ∙ ap (λ (r : Reading). index_by (what_was_read r)) (c.reading.ensures ∙ c.as_ref.ensures)))
    c.index_read.ensures
