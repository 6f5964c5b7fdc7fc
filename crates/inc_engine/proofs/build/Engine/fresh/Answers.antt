use Rattle.inc_engine.proofs.Finishes.{graph-nothing, cache-nothing}
use Rattle.inc_engine.proofs.build.Engine.fresh.Goals as goal

pub with_previous-requires-clause-graph : goal.with_previous-requires-clause-graph
with_previous-requires-clause-graph g c = rw (c.new.ensures) graph-nothing

pub with_previous-requires-clause-cache : goal.with_previous-requires-clause-cache
with_previous-requires-clause-cache g c = rw (c.new.ensures, c.new-2.ensures) cache-nothing
