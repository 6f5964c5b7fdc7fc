use Rattle.std.proofs.Common.{sym, ◌∙◌}
use Rattle.std.proofs.lemmas.Bool.{false≢true}
use Rattle.inc_proto.proofs.Mays.{never, never_if}
use Rattle.inc_proto.proofs.may.may_append.Goals as goal

pub returns-else-is_piece : goal.returns-else-is_piece
returns-else-is_piece c = λ steps d l. never (λ w. false≢true (sym c.if-is_piece.false ∙ c.is_piece.ensures.1 (w.6, w.7)))

pub returns-then-is_locked : goal.returns-then-is_locked
returns-then-is_locked c = λ steps d l.
    let lock = c.is_locked.ensures.0 c.if-is_locked.true in
    let long = c.is_piece.ensures.0 c.if-is_piece.true in (
      λ t. let w = c.has_made.ensures.0 t in (w.0, w.1, sym d ∙ w.2, (lock.0, sym l ∙ lock.1), w.3, w.4, long.0, long.1),
      λ w. c.has_made.ensures.1 (w.0, w.1, d ∙ w.2, w.4, w.5),
    )

pub returns-else-is_locked : goal.returns-else-is_locked
returns-else-is_locked c = λ steps d l. never_if c.if-is_locked.false (λ w. false≢true (sym c.if-is_locked.false ∙ c.is_locked.ensures.1 (w.3.0, l ∙ w.3.1)))
