-- What a ground keeps of its history.
use Rattle.std.specs.Prelude.{◌≡◌, ◌<◌, ◌^◌, ℕ, false, List, Option, Some, None, count_by, slice_get, length}
use Rattle.inc_fs.specs.State.{State}
use Rattle.inc_proto.specs.declared.event.Event.{Event}
use Rattle.inc_proto.specs.declared.enrolled.Enrolled.{Enrolled}
use Rattle.inc_proto.specs.Events.{begins, is_running}
use Rattle.inc_proto.specs.Files.{Files}
use Rattle.inc_proto.specs.Leads.{LeadsTo}
use Rattle.inc_proto.specs.Legal.{sight_of, running_in, AreAllowed}

-- the session of this number has begun and saw this, and runs or not; or none of this number began
abbrev pub Fits : List Event → ℕ → Option Enrolled → Type 0
Fits history who None = (sight_of who history ≡ None) × (is_running who history ≡ false)
Fits history who (Some one) =
    (one.view.number ≡ who) × (sight_of who history ≡ Some (record { job = one.view.job; steps = one.view.steps }))
    × (is_running who history ≡ one.runs)

-- The history is legal and leads to the state; the sessions stand in the order of their numbers; those that run are
-- counted, and there is room for the leaving of each.
pub record IsKept (files : Files) (history : List Event) (room : ℕ) (state : State) (sessions : List Enrolled) (running : ℕ) : Type 0 where
  pub leads : LeadsTo history state
  pub allowed : AreAllowed files history
  pub numbered : length sessions ≡ begins history
  pub fits : (who : ℕ) → Fits history who (slice_get sessions who)
  pub running_is : running ≡ running_in history
  pub counted : running ≡ count_by (λ one. one.runs) sessions
  pub room_is : room ≡ running
  pub few : length sessions < 2 ^ 32
