use Rattle.std.proofs.Common.{◌≡◌, ◌<◌, ◌^◌, drop}
use Rattle.rs_tree.specs.Words.{value_after, value_of}
use Rattle.rs_tree.proofs.word.value_within.Given as goal

abbrev pub invariant-loop-byte : goal.invariant-loop-byte
invariant-loop-byte l = (l.value < 2 ^ 63) × (value_after l.value (drop l.byte-index l.text) ≡ value_of l.text)
