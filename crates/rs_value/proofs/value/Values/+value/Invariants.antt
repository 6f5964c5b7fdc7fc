use Rattle.std.proofs.Common.{◌≡◌, ◌+◌, length, drop, None}
use Rattle.rs_tree.specs.Plain.{expressions, operations}
use Rattle.rs_tree.specs.Leaves.{filled_all, filled_by, leaves_all, leaves_by}
use Rattle.rs_value.specs.Value.{chain, all, any}
use Rattle.rs_value.proofs.Forms.{all_on, any_on}
use Rattle.rs_value.proofs.value.Values.+value.Given as goal

abbrev pub invariant-call-loop-e : goal.invariant-call-loop-e
invariant-call-loop-e l = drop (length (leaves_all (expressions (drop l.e-index l.args)))) l.self ≡ drop (length (leaves_all (expressions l.args)) + 1) l.fn.self

abbrev pub invariant-chain-loop-op : goal.invariant-chain-loop-op
invariant-chain-loop-op l =
    (chain (filled_by None l.self (operations (drop l.op-index l.more))) l.so_far ≡ chain (filled_by None l.fn.self (operations l.more)) l.fn.first) ×
    (drop (length (leaves_by (operations (drop l.op-index l.more)))) l.self ≡ drop (length (leaves_by (operations l.more))) l.fn.self)

abbrev pub invariant-all-loop-e : goal.invariant-all-loop-e
invariant-all-loop-e l =
    (all_on l.so_far l.self (expressions (drop l.e-index l.parts)) ≡ all (filled_all None l.fn.self (expressions l.parts))) ×
    (drop (length (leaves_all (expressions (drop l.e-index l.parts)))) l.self ≡ drop (length (leaves_all (expressions l.parts))) l.fn.self)

abbrev pub invariant-any-loop-e : goal.invariant-any-loop-e
invariant-any-loop-e l =
    (any_on l.so_far l.self (expressions (drop l.e-index l.parts)) ≡ any (filled_all None l.fn.self (expressions l.parts))) ×
    (drop (length (leaves_all (expressions (drop l.e-index l.parts)))) l.self ≡ drop (length (leaves_all (expressions l.parts))) l.fn.self)
