-- How a session ends: after publishing it closes its lock; after errors it first takes its directory and its lock file away.
-- Each gives whether a step of it was answered by a fault.
use Rattle.std.specs.Prelude.{ℕ, Bool, true, false, ◌||◌, [], ◌∷◌, Option, Some, None}
use Rattle.inc_fs.specs.Paths.{Text}
use Rattle.inc_fs.specs.declared.op.Op.TheVariants.{RemoveDir, UnlinkLock, Close}
use Rattle.inc_fs.specs.declared.op.Reply.{Reply}
use Rattle.inc_fs.specs.declared.op.Reply.TheVariants.{Fault}
use Rattle.inc_names.specs.declared.session.SessionName.{SessionName}
use Rattle.inc_names.specs.Entries.{lock_text, working_text}
use Rattle.inc_plan.specs.Plan.{Plan}
use Rattle.inc_plan.specs.Plan.Plan.{Give, Ask}
use Rattle.inc_proto.specs.Events.{Steps}
use Rattle.inc_session.specs.declared.failing.FailingAt.{FailingAt}
use Rattle.inc_session.specs.declared.failing.FailingAt.TheVariants as at

abbrev pub is_fault : Reply → Bool
is_fault Fault = true
is_fault reply = false

-- whether one of these steps was answered by a fault
abbrev pub has_fault : Steps → Bool
has_fault [] = false
has_fault (step ∷ steps) = is_fault step.1 || has_fault steps

-- how the latest removal of a directory among these steps was answered
abbrev pub removed_by : Steps → Option Reply
removed_by [] = None
removed_by ((RemoveDir krate entry, reply) ∷ steps) = Some reply
removed_by (step ∷ steps) = removed_by steps

-- it closes its own lock, whatever the reply; a fault may have come before
abbrev pub closes : ℕ → Bool → Plan Bool
closes handle noted = Ask (Close handle) (λ reply. Give (is_fault reply || noted))

-- after errors: its directory goes, then its lock file, then its lock; after a fault the lock alone
abbrev pub lock_gone : ℕ → Reply → Plan Bool
lock_gone handle reply = closes handle (is_fault reply)

abbrev pub dir_gone : Text → SessionName → ℕ → Reply → Plan Bool
dir_gone krate its handle Fault = closes handle true
dir_gone krate its handle reply = Ask (UnlinkLock krate (lock_text its)) (lock_gone handle)

abbrev pub fails : Text → SessionName → ℕ → Plan Bool
fails krate its handle = Ask (RemoveDir krate (working_text its)) (dir_gone krate its handle)

-- what is left of it at each step
abbrev pub failing_at : Text → ℕ → FailingAt → Plan Bool
failing_at krate handle (at.RemoveDir its) = fails krate its handle
failing_at krate handle (at.UnlinkLock its) = Ask (UnlinkLock krate (lock_text its)) (lock_gone handle)
failing_at krate handle (at.Close noted) = closes handle noted
