use Rattle.inc_roots.proofs.Caches.{cache_is}
use Rattle.inc_roots.proofs.Graphs.{graph_is}
use Rattle.inc_roots.proofs.laws.one_graph.Goals as goal

pub returns-clause-graph : goal.returns-clause-graph
returns-clause-graph c = graph_is

pub returns-clause-cache : goal.returns-clause-cache
returns-clause-cache c = cache_is
