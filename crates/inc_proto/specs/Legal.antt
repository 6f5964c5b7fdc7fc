-- Legal histories.
use Rattle.std.specs.Prelude.{ℕ, ◌+◌, ◌-◌, if◌then◌else◌, List, [], ◌∷◌, Option, Some, None, IsSome}
use Rattle.inc_base.specs.declared.job.Job.{Job}
use Rattle.inc_fs.specs.State.{State}
use Rattle.inc_fs.specs.declared.op.Op.{Op}
use Rattle.inc_fs.specs.declared.op.Op.TheVariants.{Append}
use Rattle.inc_proto.specs.declared.event.Event.{Event}
use Rattle.inc_proto.specs.declared.event.Event.TheVariants.{Begin, Did, Left}
use Rattle.inc_proto.specs.Events.{Steps, is_running, job_of, own_steps}
use Rattle.inc_proto.specs.Leads.{LeadsTo}
use Rattle.inc_proto.specs.Files.{Files}
use Rattle.inc_proto.specs.Permits.{IsPermitted}

-- What a session sees: its job, and its own steps with their replies.
pub record Sight : Type 0 where
  pub job : Job
  pub steps : Steps

abbrev pub sighted : Option Job → Steps → Option Sight
sighted None steps = None
sighted (Some job) steps = Some (record { job = job; steps = steps })

-- what a session saw: its job and its own steps, also after it left
abbrev pub sight_of : ℕ → List Event → Option Sight
sight_of who events = sighted (job_of who events) (own_steps who events)

-- what a session sees, where it runs
abbrev pub view_of : ℕ → List Event → Option Sight
view_of who events = if is_running who events then sight_of who events else None

-- how many sessions run, where each leaving is of one that runs
abbrev pub running_in : List Event → ℕ
running_in [] = 0
running_in (Begin number job ∷ events) = running_in events + 1
running_in (Did number op reply ∷ events) = running_in events
running_in (Left number op cut ∷ events) = running_in events - 1

-- the jobs that began
abbrev pub jobs : List Event → List Job
jobs [] = []
jobs (Begin number job ∷ events) = job ∷ jobs events
jobs (Did number op reply ∷ events) = jobs events
jobs (Left number op cut ∷ events) = jobs events

-- a session that sees this may make this step
abbrev pub MaySee : Files → Option Sight → Op → Type 0
MaySee files None op = ⊥
MaySee files (Some sight) op = IsPermitted files sight.job sight.steps op

-- after these events, the session runs, and its own steps permit this one
abbrev pub MayDo : Files → List Event → ℕ → Op → Type 0
MayDo files events who op = MaySee files (view_of who events) op

-- a session that leaves within a step does so within an append
abbrev pub IsAppend : Op → Type 0
IsAppend (Append krate entry file piece) = Unit {0}
IsAppend op = ⊥

-- a leaving is of a session that runs; it is between two steps, or within an append that is permitted
abbrev pub MayLeave : Files → List Event → ℕ → Option Op → Type 0
MayLeave files events who None = IsSome (view_of who events)
MayLeave files events who (Some op) = IsAppend op × MayDo files events who op

-- after these events, this one keeps the rules
abbrev pub IsAllowed : Files → List Event → Event → Type 0
IsAllowed files events (Begin number job) = Unit {0}
IsAllowed files events (Did number op reply) = MayDo files events number op
IsAllowed files events (Left number op cut) = MayLeave files events number op

-- each event keeps the rules at its place
abbrev pub AreAllowed : Files → List Event → Type 0
AreAllowed files [] = Unit {0}
AreAllowed files (event ∷ events) = AreAllowed files events × IsAllowed files events event

-- A history is legal where it leads to a state step by step, each step and leaving is of a session that runs, each step
-- is permitted at its place by the session's own steps, and a leaving stands between two steps or within a permitted append.
pub record IsLegal (files : Files) (events : List Event) : Type 0 where
  pub state : State
  pub leads : LeadsTo events state
  pub allowed : AreAllowed files events

-- a directory in memory with its history
pub record World : Type 0 where
  pub history : List Event
  pub state : State
