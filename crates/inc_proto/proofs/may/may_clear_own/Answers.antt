use Rattle.std.proofs.Common.{sym, ◌∙◌}
use Rattle.std.proofs.lemmas.Bool.{false≢true}
use Rattle.inc_proto.proofs.Mays.{never_if}
use Rattle.inc_proto.proofs.may.may_clear_own.Goals as goal

pub returns-then-is_locked : goal.returns-then-is_locked
returns-then-is_locked c = λ steps d l.
    let lock = c.is_locked.ensures.0 c.if-is_locked.true in
    (λ t. let w = c.stands_at.ensures.0 t in (w.0, sym d ∙ w.1, (lock.0, sym l ∙ lock.1)), λ w. c.stands_at.ensures.1 (w.0, d ∙ w.1))

pub returns-else-is_locked : goal.returns-else-is_locked
returns-else-is_locked c = λ steps d l. never_if c.if-is_locked.false (λ w. false≢true (sym c.if-is_locked.false ∙ c.is_locked.ensures.1 (w.2.0, l ∙ w.2.1)))
