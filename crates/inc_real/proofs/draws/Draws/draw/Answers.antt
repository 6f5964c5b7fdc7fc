use Rattle.std.proofs.Common.{◌≡◌, ◌∙◌, cond, true, false, Bool, refl}
use Rattle.inc_real.proofs.draws.Draws.draw.Goals as goal

kept : (noted was : Bool) → was ≡ true → cond noted true was ≡ true
kept true was is = refl
kept false was is = is

pub returns-clause-stay : goal.returns-clause-stay
returns-clause-stay c = λ pair was. c.in_ok-insert.ensures.updates.0 pair ∙ kept _ _ was
