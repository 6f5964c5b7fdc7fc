use Rattle.std.proofs.Common.{take, reverse, ℕ}
use Rattle.inc_names.specs.Entries.{lock_text}
use Rattle.inc_proto.specs.Events.{Steps}
use Rattle.inc_proto.specs.Views.{HasAny}
use Rattle.inc_proto.specs.Sought.{IsGiven, Holds, Answers}
use Rattle.inc_proto.proofs.holds.holds_and.Given as goal

abbrev pub invariant-loop-step : goal.invariant-loop-step
invariant-loop-step l =
    (h : ℕ) (after : Steps) → Holds l.way l.krate l.n (reverse l.steps) h after → Answers l.question after
    → ¬ HasAny (IsGiven l.krate (lock_text l.n) h) (reverse (take l.step-index l.steps))
