-- What is read of a history: of each session by its number, and of each file by its number. The laws speak of these
-- readings alone, and of what `inc_fs` reads of a state.
use Rattle.std.specs.Prelude.{ℕ, ◌+◌, ◌==◌, Bool, if◌then◌else◌, List, [], ◌∷◌, Option, Some, None}
use Rattle.inc_base.specs.declared.job.Job.{Job}
use Rattle.inc_fs.specs.Paths.{Text}
use Rattle.inc_fs.specs.declared.op.Op.{Op}
use Rattle.inc_fs.specs.declared.op.Op.TheVariants.{Draw, MakeLock, Create}
use Rattle.inc_fs.specs.declared.op.Reply.{Reply}
use Rattle.inc_fs.specs.declared.op.Reply.TheVariants.{Drawn, Handle, Done}
use Rattle.inc_names.specs.declared.session.SessionName.{SessionName}
use Rattle.inc_proto.specs.declared.event.Event.{Event}
use Rattle.inc_proto.specs.declared.event.Event.TheVariants.{Begin, Did, Left}
use Rattle.inc_proto.specs.declared.own.OwnLock.{OwnLock}
use Rattle.inc_proto.specs.Events.{Steps, own_steps, job_of, is_running}
use Rattle.inc_proto.specs.Views.{own, opening, mode, dir, Opening, Dir}
use Rattle.inc_proto.specs.Views.Opening.{Made, Opened}
use Rattle.inc_proto.specs.Views.Dir.{Unmade, Stands, Removed, Published}

-- ---- A session's names.

abbrev pub draws_after : Op × Reply → List SessionName → List SessionName
draws_after (Draw, Drawn moment random) before = record { moment = moment; random = random } ∷ before
draws_after step before = before

-- the names that it drew, the latest first
abbrev pub draws : Steps → List SessionName
draws [] = []
draws (step ∷ steps) = draws_after step (draws steps)

abbrev pub head_of : List SessionName → Option SessionName
head_of [] = None
head_of (name ∷ names) = Some name

-- its name, as `name` has it: the latest of them
abbrev pub latest_name : Steps → Option SessionName
latest_name steps = head_of (draws steps)

abbrev pub names_of : List Event → ℕ → List SessionName
names_of events who = draws (own_steps who events)

-- ---- Its job, and whether it runs.

abbrev pub jobs_of : List Event → ℕ → Option Job
jobs_of events who = job_of who events

-- the job of a session that runs
abbrev pub running : ℕ → List Event → Option Job
running who events = if is_running who events then job_of who events else None

abbrev pub runs_of : List Event → ℕ → Option Job
runs_of events who = running who events

-- ---- Its directory.

-- where its directory is: nowhere yet, at this path, removed, or out under the name by which it was published
pub data Site : Type 0 where
  Nowhere : Site
  At : Text → Text → Site
  Gone : Site
  Out : Text → Text → Site

abbrev pub site_of : Dir → Site
site_of Unmade = Nowhere
site_of (Stands krate entry files) = At krate entry
site_of Removed = Gone
site_of (Published krate entry files) = Out krate entry

abbrev pub dirs_of : List Event → ℕ → Dir
dirs_of events who = dir (own_steps who events)

abbrev pub sites_of : List Event → ℕ → Site
sites_of events who = site_of (dir (own_steps who events))

-- ---- Its locks.

abbrev pub owns_of : List Event → ℕ → OwnLock
owns_of events who = own (own_steps who events)

-- how its handle was opened, by the handle's number
abbrev pub opens_of : List Event → ℕ → ℕ → Option Opening
opens_of events who h = opening h (own_steps who events)

-- and in which mode it holds the lock
abbrev pub modes_of : List Event → ℕ → ℕ → Option Bool
modes_of events who h = mode h (own_steps who events)

-- the path of the lock file that a handle was opened on
abbrev pub place_of : Opening → Text × Text
place_of (Made krate entry) = (krate, entry)
place_of (Opened krate entry) = (krate, entry)

-- ---- Files. They have the numbers from 0 on, in the order in which they were made.

-- why a file was made: as the lock file at this path, or by this session's `Create`
pub data Maker : Type 0 where
  AsLock : Text → Text → Maker
  ByCreate : ℕ → Maker

abbrev pub made_by : ℕ → Op → Reply → Option Maker
made_by who (MakeLock krate entry) (Handle handle) = Some (AsLock krate entry)
made_by who (Create krate entry file) Done = Some (ByCreate who)
made_by who op reply = None

abbrev pub count_after : Option Maker → ℕ → ℕ
count_after None count = count
count_after (Some maker) count = count + 1

-- how many files were made
abbrev pub count : List Event → ℕ
count [] = 0
count (Begin number job ∷ events) = count events
count (Did number op reply ∷ events) = count_after (made_by number op reply) (count events)
count (Left number op cut ∷ events) = count events

abbrev pub maker_after : ℕ → ℕ → Option Maker → Option Maker → Option Maker
maker_after number count None before = before
maker_after number count (Some maker) before = if count == number then Some maker else before

-- why the file of this number was made
abbrev pub maker : ℕ → List Event → Option Maker
maker file [] = None
maker file (Begin number job ∷ events) = maker file events
maker file (Did number op reply ∷ events) = maker_after file (count events) (made_by number op reply) (maker file events)
maker file (Left number op cut ∷ events) = maker file events

abbrev pub makers_of : List Event → ℕ → Option Maker
makers_of events file = maker file events
