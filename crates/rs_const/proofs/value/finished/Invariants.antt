use Rattle.std.proofs.Common.{◌≡◌, ℕ, length, Option, Some}
use Rattle.std.specs.Prelude.{slice_get}
use Rattle.rs_tree.specs.declared.answers.Const.{Const}
use Rattle.rs_const.specs.State.{IsEnd}
use Rattle.rs_const.proofs.value.finished.Given as goal

abbrev pub invariant-loop-at : goal.invariant-loop-at
invariant-loop-at l = record {
  all : length l.values.items ≡ l.at;
  each : (i : ℕ) (c : Const) (settled : Option Const) → slice_get l.values.items i ≡ Some c → slice_get l.settled i ≡ Some settled → IsEnd l.its i settled c;
}
