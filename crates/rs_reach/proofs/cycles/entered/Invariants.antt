use Rattle.std.proofs.Common.{◌≡◌, ℕ, false, true}
use Rattle.std.specs.Prelude.{slice_index_or}
use Rattle.rs_reach.specs.Cycles.{AreEntered}
use Rattle.rs_reach.proofs.cycles.entered.Given as goal

abbrev pub invariant-loop-its : goal.invariant-loop-its
invariant-loop-its l = (v : ℕ) → slice_index_or l.entered.items v false ≡ true → ⊥

abbrev pub invariant-loop-from : goal.invariant-loop-from
invariant-loop-from l = AreEntered l.names l.classes l.entered.items
