use Rattle.std.proofs.Common.{ap, ◌∙◌}
use Rattle.std.proofs.lemmas.Result.{IfOk-weaker}
use Rattle.rs_lines.specs.Lines.{printed_all}
use Rattle.rs_queries.proofs.diagnosis.indexed_text.Goals as goal

pub returns : goal.returns
returns c = IfOk-weaker c.print.result _ _ (λ out h. record { known = c.in_ok-known.known; are = c.in_ok-known.ensures; says = h ∙ ap printed_all c.in_ok-checked.ensures.lines }) c.print.ensures
