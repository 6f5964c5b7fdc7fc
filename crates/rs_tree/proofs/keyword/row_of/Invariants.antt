use Rattle.std.proofs.Common.{◌≡◌, drop}
use Rattle.rs_tree.specs.Kinds.{kind_in}
use Rattle.rs_tree.proofs.Rows.{read_rows}
use Rattle.rs_tree.proofs.keyword.row_of.Given as goal

abbrev pub invariant-loop-row : goal.invariant-loop-row
invariant-loop-row l = kind_in (read_rows (drop l.row-index l.rows)) l.text ≡ kind_in (read_rows l.rows) l.text
