-- What a history says of a session. Lists of events and of steps stand newest first, here and in every definition.
use Rattle.std.specs.Prelude.{◌≡◌, ℕ, ◌+◌, ◌==◌, Bool, true, false, if◌then◌else◌, List, [], ◌∷◌, Option, Some, None}
use Rattle.inc_base.specs.declared.job.Job.{Job}
use Rattle.inc_fs.specs.declared.op.Op.{Op}
use Rattle.inc_fs.specs.declared.op.Reply.{Reply}
use Rattle.inc_proto.specs.declared.event.Event.{Event}
use Rattle.inc_proto.specs.declared.event.Event.TheVariants.{Begin, Did, Left}

-- whose event it is
abbrev pub number_of : Event → ℕ
number_of (Begin number job) = number
number_of (Did number op reply) = number
number_of (Left number op cut) = number

-- how many sessions began, which is the number of the next one
abbrev pub begins : List Event → ℕ
begins [] = 0
begins (Begin number job ∷ events) = begins events + 1
begins (Did number op reply ∷ events) = begins events
begins (Left number op cut ∷ events) = begins events

-- the numbers of the sessions that began, the latest first
abbrev pub beginnings : List Event → List ℕ
beginnings [] = []
beginnings (Begin number job ∷ events) = number ∷ beginnings events
beginnings (Did number op reply ∷ events) = beginnings events
beginnings (Left number op cut ∷ events) = beginnings events

-- the first of these numbers, which is the latest; 0 where there is none
abbrev pub latest : List ℕ → ℕ
latest [] = 0
latest (number ∷ numbers) = number

-- whether a session runs: it began, and hasn't left since
abbrev pub is_running : ℕ → List Event → Bool
is_running who [] = false
is_running who (Begin number job ∷ events) = if number == who then true else is_running who events
is_running who (Did number op reply ∷ events) = is_running who events
is_running who (Left number op cut ∷ events) = if number == who then false else is_running who events

-- the job with which a session began
abbrev pub job_of : ℕ → List Event → Option Job
job_of who [] = None
job_of who (Begin number job ∷ events) = if number == who then Some job else job_of who events
job_of who (Did number op reply ∷ events) = job_of who events
job_of who (Left number op cut ∷ events) = job_of who events

-- a session's own events: those of its number
abbrev pub by : ℕ → List Event → List Event
by who [] = []
by who (event ∷ events) = if number_of event == who then event ∷ by who events else by who events

-- an event after these is a beginning, or of a session that runs
abbrev pub IsOfRunning : List Event → Event → Type 0
IsOfRunning events (Begin number job) = Unit {0}
IsOfRunning events (Did number op reply) = is_running number events ≡ true
IsOfRunning events (Left number op cut) = is_running number events ≡ true

-- each step and each leaving is of a session that runs then
abbrev pub AreOfRunning : List Event → Type 0
AreOfRunning [] = Unit {0}
AreOfRunning (event ∷ events) = IsOfRunning events event × AreOfRunning events

-- steps with their replies, the newest first
abbrev pub Steps : Type 0
Steps = List (Op × Reply)

-- a session's own steps with their replies: those since it began
abbrev pub own_steps : ℕ → List Event → Steps
own_steps who [] = []
own_steps who (Begin number job ∷ events) = if number == who then [] else own_steps who events
own_steps who (Did number op reply ∷ events) = if number == who then (op, reply) ∷ own_steps who events else own_steps who events
own_steps who (Left number op cut ∷ events) = own_steps who events

-- the events that these steps of a session are
abbrev pub did : ℕ → Steps → List Event
did who [] = []
did who (step ∷ steps) = Did who step.0 step.1 ∷ did who steps
