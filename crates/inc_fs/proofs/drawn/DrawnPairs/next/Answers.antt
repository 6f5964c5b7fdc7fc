use Rattle.std.proofs.Common.{◌∙◌}
use Rattle.inc_fs.proofs.Skips.{goes_on, not_drawn}
use Rattle.inc_fs.proofs.drawn.DrawnPairs.next.Goals as goal

pub returns-clause-some : goal.returns-clause-some
returns-clause-some c = rw (← c.self.view_is) (goes_on _ c.self.inside.skips (c.args.moment, c.args.random) c.copied.result (c.copied.ensures ∙ c.get.ensures) c.self.invariant)

pub returns-clause-none : goal.returns-clause-none
returns-clause-none c = rw (← c.self.view_is) (not_drawn _ c.self.inside.skips (c.args.moment, c.args.random) c.copied.result (c.copied.ensures ∙ c.get.ensures) c.self.invariant)
