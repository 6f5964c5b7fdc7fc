use Rattle.std.proofs.Common.{sym, ◌∙◌}
use Rattle.inc_proto.proofs.may.may_read.Goals as goal

pub returns : goal.returns
returns c = λ steps is.
    (λ t. let w = c.stands_at.ensures.0 t in (w.0, sym is ∙ w.1), λ w. c.stands_at.ensures.1 (w.0, is ∙ w.1))
