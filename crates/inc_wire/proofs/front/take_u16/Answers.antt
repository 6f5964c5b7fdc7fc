use Rattle.inc_wire.proofs.Taking.{no_number, number_taken}
use Rattle.inc_wire.proofs.front.take_u16.Goals as goal

pub returns-in_err-value : goal.returns-in_err-value
returns-in_err-value c = rw c.from_residual.ensures (no_number 2 _ c.in_err-value.ensures.none.0)

pub returns : goal.returns
returns c = number_taken 2 _ _ _ c.in_ok-value.ensures.some.0 c.in_ok-value.ensures.some.1
