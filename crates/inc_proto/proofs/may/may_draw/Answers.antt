use Rattle.std.proofs.Common.{sym, ◌∙◌}
use Rattle.inc_proto.proofs.may.may_draw.Goals as goal

pub returns : goal.returns
returns c = λ steps is. (λ t. sym is ∙ c.is_unmade.ensures.0 t, λ u. c.is_unmade.ensures.1 (is ∙ u))
