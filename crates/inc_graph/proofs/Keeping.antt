-- A value that was taken is kept where it passes.
use Rattle.std.proofs.Common.{ℕ, List, [], ◌∷◌, Option, Some, None, All, sym, subst}
use Rattle.std.proofs.lemmas.List.Elements.{All-nil, All-cons}
use Rattle.inc_wire.specs.Fits.{Each, FitsList}
use Rattle.inc_wire.specs.Narrow.{Both, narrow_kept, narrow_refused}
use Rattle.inc_wire.specs.Readings.{IsTaken, Takes}
use Rattle.inc_graph.specs.declared.node.Node.{Node}
use Rattle.inc_graph.specs.Forms.{FitsNode}
use Rattle.inc_graph.specs.Graphs.{HasQuery}
use Rattle.inc_graph.specs.Kept.{IsKept}

pub takes_kept : {X : Type 0} (P Q : X → Type 0) (form : X → List ℕ) (before after : List ℕ) (x : X) (kept : Option X) → IsTaken P form before after x → IsKept Q x kept → Takes (Both P Q) form before after kept
takes_kept P Q form before after x None took not = narrow_refused P Q form before after x took not
takes_kept P Q form before after x (Some y) took is = subst (λ z. IsTaken (Both P Q) form before after z) (sym is.0) (narrow_kept P Q form before after x took is.1)

-- each of the nodes that fit has a query of a graph
pub queries_each : (nodes : List Node) → Each FitsNode nodes → All HasQuery nodes
queries_each [] h = All-nil HasQuery
queries_each (x ∷ xs) h = All-cons HasQuery x xs h.0.more (queries_each xs h.1)

pub queries_fit : (nodes : List Node) → FitsList FitsNode nodes → All HasQuery nodes
queries_fit nodes fits = queries_each nodes fits.each
