use Rattle.inc_wire.proofs.Taking.{text_answered}
use Rattle.inc_wire.proofs.front.take_text.Goals as goal

pub returns : goal.returns
returns c = text_answered _ _ _ c.text.ensures.some c.text.ensures.none
