use Rattle.std.proofs.Common.{ap}
use Rattle.inc_proto.proofs.ground.prepare.Goals as goal

pub give_up_place-requires : goal.give_up_place-requires
give_up_place-requires c = (c.args.view.now.steps, ap (λ v. v.steps) c.in_default.ensures.ok)
