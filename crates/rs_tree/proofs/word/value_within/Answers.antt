use Rattle.std.proofs.Common.{arith}
use Rattle.rs_tree.proofs.Values.{value_passes}
use Rattle.rs_tree.proofs.word.value_within.Goals as goal

pub returns-then-value-digit : goal.returns-then-value-digit
returns-then-value-digit c = value_passes c.args.text.now c.loop-byte.byte-index 0 c.loop-byte.value (omega arith) c.loop-byte.invariant.1 (omega arith) (omega arith)
