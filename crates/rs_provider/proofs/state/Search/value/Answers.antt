use Rattle.std.proofs.Common.{ap, ◌∙◌}
use Rattle.std.specs.Coded.{Coded-set, coded_list, coded_ℕ}
use Rattle.std.proofs.Math.Logic.{∥∥₁_elim}
use Rattle.std.proofs.lemmas.Result.{IfOk-weaker}
use Rattle.rs_answers.specs.Forms.{places_form}
use Rattle.rs_provider.proofs.state.Search.value.Goals as goal

pub returns : goal.returns
returns c =
    IfOk-weaker c.places_bytes.result _ _ (λ v is calls there. ∥∥₁_elim there (Coded-set (coded_list coded_ℕ) _ _) (λ t. is ∙ ap places_form (c.in_ok-places.ensures calls t))) c.places_bytes.ensures.bytes
