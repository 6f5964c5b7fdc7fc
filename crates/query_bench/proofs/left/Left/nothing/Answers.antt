use Rattle.std.proofs.Common.{[], sym, subst}
use Rattle.inc_graph.specs.Graphs.{IsCache, IsGraph}
use Rattle.query_bench.proofs.Empty.{no_cache, no_graph}
use Rattle.query_bench.proofs.left.Left.nothing.Goals as goal

pub invariant_of-result : goal.invariant_of-result
invariant_of-result c = subst (λ g. IsGraph g × IsCache g c.new-2.result) (sym c.new.ensures) (subst (λ v. IsGraph [] × IsCache [] v) (sym c.new-2.ensures) (no_graph, no_cache))
