use Rattle.std.proofs.Common.{◌∙◌}
use Rattle.inc_fs.proofs.Skips.{both_ways}
use Rattle.inc_fs.proofs.drawn.DrawnPairs.first_new.Goals as goal

pub returns-in_default-next-clause-first : goal.returns-in_default-next-clause-first
returns-in_default-next-clause-first c = both_ways _ _ _ _ _ c.loop.invariant.way (rw c.loop.invariant.kept at c.in-Some.ensures.some.1)

pub set_next-requires-clause-skip : goal.set_next-requires-clause-skip
set_next-requires-clause-skip c = both_ways _ _ _ _ _ c.in-Some.ensures.some.1 c.in-Some-next.ensures.some.1

pub loop-preserved : goal.loop-preserved
loop-preserved c = record {
  way = both_ways _ _ _ _ _ c.loop.invariant.way (rw c.loop.invariant.kept at (both_ways _ _ _ _ _ c.in-Some.ensures.some.1 c.in-Some-next.ensures.some.1));
  kept = c.set_next.ensures ∙ c.loop.invariant.kept;
}
