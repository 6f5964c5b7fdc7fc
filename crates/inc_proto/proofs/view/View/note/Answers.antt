use Rattle.std.proofs.Common.{ap}
use Rattle.inc_proto.proofs.view.View.note.Goals as goal

pub fill_place-requires : goal.fill_place-requires
fill_place-requires c = (c.args.self.now.steps, ap (λ v. v.steps) c.in-Ok-hold_place.ensures.ok)
