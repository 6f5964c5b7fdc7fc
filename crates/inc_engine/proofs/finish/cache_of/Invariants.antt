use Rattle.inc_engine.specs.Finish.{IsCacheOf}
use Rattle.inc_engine.proofs.finish.cache_of.Given as goal

abbrev pub invariant-loop-i : goal.invariant-loop-i
invariant-loop-i g l = IsCacheOf g.P.Providers.kept l.memo l.order l.i l.cache
