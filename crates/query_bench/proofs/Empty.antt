-- A graph and a cache of nothing.
use Rattle.std.proofs.Common.{[], arith}
use Rattle.std.specs.List.Sorted.{IsStrictlySortedBy}
use Rattle.inc_graph.specs.Graphs.{IsCache, IsGraph}

pub no_graph : IsGraph []
unfolding IsStrictlySortedBy
no_graph = record { ascend = tt; each = λ k d l. absurd (omega (arith, l)) }

pub no_cache : IsCache [] []
unfolding IsStrictlySortedBy
no_cache = record { ascend = tt; within = λ k d l. absurd (omega (arith, l)) }
