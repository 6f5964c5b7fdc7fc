-- A graph and a cache of nothing, and what stands on them.
use Rattle.std.proofs.Common.{◌≡◌, ℕ, List, [], sym, subst, arith}
use Rattle.std.specs.List.Sorted.{IsStrictlySortedBy}
use Rattle.inc_base.specs.declared.job.Compiler.{Compiler}
use Rattle.inc_graph.specs.declared.node.Node.{Node}
use Rattle.inc_graph.specs.Graphs.{IsCache, IsGraph}
use Rattle.rs_build.specs.Over.{IsOver, begun}

pub no_graph : IsGraph []
unfolding IsStrictlySortedBy
no_graph = record { ascend = tt; each = λ k d l. absurd (omega (arith, l)) }

pub no_cache : IsCache [] []
unfolding IsStrictlySortedBy
no_cache = record { ascend = tt; within = λ k d l. absurd (omega (arith, l)) }

-- a build over nothing is one over an earlier one
pub over_nothing : ((compiler : Compiler) (text s : List ℕ) → IsOver (begun text compiler [] []) s)
    → (text : List ℕ) (compiler : Compiler) (nodes : List Node) (values : List (ℕ × List ℕ)) → nodes ≡ [] → values ≡ [] → IsOver (begun text compiler nodes values) []
over_nothing over text compiler nodes values none no_values =
    subst (λ nodes. IsOver (begun text compiler nodes values) []) (sym none)
    (subst (λ values. IsOver (begun text compiler [] values) []) (sym no_values) (over compiler text []))
