-- Counts that stand still one past the most.
use Rattle.std.proofs.Common.{◌≡◌, ℕ, ◌+◌, ◌≤◌, arith}
use Rattle.rs_tree.specs.Equations.{turns, known_forms, known_statements}
use Rattle.rs_tree.specs.Weight.{weighs, measures}
use Rattle.rs_lower.specs.Counts.{capped}
use Rattle.rs_lower.proofs.Steps.{labels_call, labels_group, labels_unary, labels_arith, labels_compare, labels_and, labels_or}
use Rattle.rs_lower.proofs.Blocks.{needs}

pub cap_small : (n : ℕ) → capped n ≤ 65536
cap_small n = omega arith

pub cap_both : (a b : ℕ) → capped (capped a + capped b) ≡ capped (a + b)
cap_both a b = omega arith

pub cap_next : (a b c : ℕ) → capped (capped (a + capped b) + c) ≡ capped (a + (b + c))
cap_next a b c = omega arith

pub ruleset caps = (cap_small, cap_both, cap_next, needs, turns, known_forms, known_statements, weighs, measures, labels_call, labels_group, labels_unary, labels_arith, labels_compare, labels_and, labels_or)
