use Rattle.inc_fs.proofs.Skips.{skips_set}
use Rattle.inc_fs.proofs.drawn.DrawnPairs.set_next.Goals as goal

pub invariant_of-self : goal.invariant_of-self
invariant_of-self c =
    rw c.replace.ensures.rest (skips_set _ c.self.inside.skips (c.args.moment, c.args.random) c.args.next c.self.invariant c.replace.ensures.ordered
    (rw (← c.self.view_is) at c.requires.drawn) (rw (← c.self.view_is) at c.requires.skip))
