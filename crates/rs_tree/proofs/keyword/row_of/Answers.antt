use Rattle.std.proofs.Common.{arith, ◌∙◌, sym}
use Rattle.rs_tree.proofs.Rows.{found_at, next_at}
use Rattle.rs_tree.proofs.keyword.row_of.Goals as goal

pub returns-then-eq : goal.returns-then-eq
returns-then-eq c = found_at _ c.loop-row.row-index _ _ _ (omega arith) c.loop-row.invariant (sym c.eq.ensures ∙ c.if-eq.true)

pub loop-row-preserved : goal.loop-row-preserved
loop-row-preserved c = next_at _ c.loop-row.row-index _ _ _ (omega arith) c.loop-row.invariant (sym c.eq.ensures ∙ c.if-eq.false)
