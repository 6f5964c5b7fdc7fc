use Rattle.std.proofs.Common.{◌≡◌, ℕ, ◌+◌, ◌≤◌, List, take}
use Rattle.std.specs.List.{All, count_by}
use Rattle.inc_engine.specs.Builds.{Setup, Before, is_red}
use Rattle.inc_engine.specs.Marking.{asked, IsRight}
use Rattle.inc_engine.proofs.work.work_of.Given as goal

abbrev pub invariant-loop-done : goal.invariant-loop-done
invariant-loop-done l = record {
  all : l.work.ran + l.work.green ≡ l.done-index;
  few : l.work.red ≤ l.done-index;
  reds : (b : Setup) (s : List ℕ) → b.nodes ≡ l.previous.graph → Before b s → All (IsRight b (asked l.memo)) l.memo → l.work.red ≡ count_by (λ d. is_red b s d.query) (take l.done-index l.memo);
}
