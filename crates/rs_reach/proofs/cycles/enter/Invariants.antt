use Rattle.std.proofs.Common.{◌≡◌, ◌⊎◌, ℕ, false, true}
use Rattle.std.specs.Prelude.{slice_index_or}
use Rattle.std.specs.List.{Contains}
use Rattle.rs_reach.specs.Cycles.{is_entering}
use Rattle.rs_reach.proofs.cycles.enter.Given as goal

abbrev pub invariant-loop-named : goal.invariant-loop-named
invariant-loop-named l = (v : ℕ) → slice_index_or l.entered.items v false ≡ true → (slice_index_or l.initial.entered.items v false ≡ true) ⊎ (Contains l.its v × (is_entering l.classes l.from v ≡ true))
