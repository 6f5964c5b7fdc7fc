use Rattle.std.proofs.Common.{◌≡◌, ◌+◌, ◌≤◌, drop}
use Rattle.rs_tree.specs.Plain.{expressions, operations}
use Rattle.rs_lower.specs.Counts.{capped, labels_all, labels_by}
use Rattle.rs_lower.proofs.count.+labels.Given as goal

abbrev pub invariant-labels_all-loop-e : goal.invariant-labels_all-loop-e
invariant-labels_all-loop-e l = (capped (l.count + labels_all (expressions (drop l.e-index l.parts))) ≡ capped (labels_all (expressions l.parts))) × (l.count ≤ 65536)

abbrev pub invariant-labels_by-loop-e : goal.invariant-labels_by-loop-e
invariant-labels_by-loop-e l = (capped (l.count + labels_by (operations (drop l.e-index l.more))) ≡ capped (labels_by (operations l.more))) × (l.count ≤ 65536)
