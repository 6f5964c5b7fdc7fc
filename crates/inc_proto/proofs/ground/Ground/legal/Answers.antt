use Rattle.std.proofs.Common.{◌<◌, ◌^◌, subst}
use Rattle.inc_proto.proofs.ground.Ground.legal.Goals as goal

pub returns-clause-few : goal.returns-clause-few
returns-clause-few g c = rw (← c.self.view_is) (subst (λ n. n < 2 ^ 32) c.self.invariant.numbered c.self.invariant.few)
