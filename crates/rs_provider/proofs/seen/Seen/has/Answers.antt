use Rattle.std.proofs.Common.{ap, ◌∙◌}
use Rattle.rs_plans.specs.Names.{is_among}
use Rattle.rs_provider.proofs.Seens.{has_is}
use Rattle.rs_provider.proofs.seen.Seen.has.Goals as goal

pub returns : goal.returns
returns c = c.contains.ensures ∙ has_is c.self.inside.places c.args.place.now ∙ ap (λ ps. is_among ps c.args.place.now) c.self.view_is
