use Rattle.inc_wire.proofs.Taking.{number_answered}
use Rattle.inc_wire.proofs.front.take_u64.Goals as goal

pub returns : goal.returns
returns c = number_answered 8 _ _ _ c.number.ensures.some c.number.ensures.none
