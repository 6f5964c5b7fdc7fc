-- What a session's own steps say where a part of its order ends, and where it ends with its outcome.
use Rattle.std.specs.Prelude.{◌≡◌, ◌⊎◌, ℕ, Bool, List, [], ◌∷◌, ◌++◌, Some, None}
use Rattle.inc_base.specs.Meters.{raised}
use Rattle.inc_base.specs.declared.job.Job.{Job}
use Rattle.inc_fs.specs.Lists.{IsIn}
use Rattle.inc_fs.specs.Paths.{Text}
use Rattle.inc_fs.specs.declared.op.Op.{Op}
use Rattle.inc_fs.specs.declared.op.Op.TheVariants.{MakeLock, MakeDir, Close}
use Rattle.inc_fs.specs.declared.op.Reply.{Reply}
use Rattle.inc_fs.specs.declared.op.Reply.TheVariants.{Done, Fault}
use Rattle.inc_laws.specs.Fair.{CanBe}
use Rattle.inc_laws.specs.Readings.{draws}
use Rattle.inc_names.specs.declared.session.SessionName.{SessionName}
use Rattle.inc_names.specs.Entries.{lock_text, working_text, final_text}
use Rattle.inc_plan.specs.Plan.{Plan, Ends, Judge}
use Rattle.inc_proto.specs.Events.{Steps}
use Rattle.inc_proto.specs.Permits.{HasDir, IsPermitted, complete}
use Rattle.inc_proto.specs.Views.{name, own, dir, HasTried, HasTriedDir}
use Rattle.inc_proto.specs.Views.Dir.{Unmade, Removed, Published}
use Rattle.inc_proto.specs.declared.own.Known.{Known}
use Rattle.inc_proto.specs.declared.own.OwnLock.TheVariants.{Locked}
use Rattle.inc_wire.specs.Forms.{job_hash_of}
use Rattle.inc_session.specs.Compiling.{compiled_of, units_of}
use Rattle.inc_session.specs.Ending.{fails, has_fault, removed_by}
use Rattle.inc_session.specs.Order.{most_names, plan_of}
use Rattle.inc_session.specs.Reading.{AreAnswered, IsDisturbing, lost_names, metered}
use Rattle.inc_session.specs.Saves.{saved_files}
use Rattle.inc_session.specs.Saving.{SaveEnd, publishing}
use Rattle.inc_session.specs.Saving.SaveEnd.{Saved, Faulted, Off}
use Rattle.inc_session.specs.declared.compile.Made.{Made}
use Rattle.inc_session.specs.declared.naming.NamingEnd.{NamingEnd}
use Rattle.inc_session.specs.declared.naming.NamingEnd.TheVariants as naming
use Rattle.inc_session.specs.declared.outcome.Outcome.{Outcome}
use Rattle.inc_session.specs.declared.outcome.Outcome.TheVariants.{Built, Errors, DiskFault, Lost, Disturbed}
use Rattle.inc_session.specs.declared.outcome.Used.{Used}

-- How its steps are judged: the replies are of the rows' kinds, and wherever the steps stand in a legal history as a running
-- session's own, they permit the next one.
abbrev pub judge : Job → Judge
judge job = record { CanBe = AreAnswered; May = λ steps op. CanBe saved_files job steps → IsPermitted saved_files job steps op }

-- ---- On its way.

-- it has no directory, tried no lock file but of names that it drew, lost so many of them, and has emitted nothing
pub record IsUnnamed (job : Job) (lost : ℕ) (steps : Steps) : Type 0 where
  pub no_dir : dir steps ≡ Unmade
  pub untried : ¬ HasTriedDir steps
  pub drawn : (n : SessionName) → HasTried (MakeLock job.krate (lock_text n)) steps → IsIn (draws steps) n
  pub lost_is : lost_names steps ≡ lost
  pub still : (start : ℕ) → metered (units_of job) steps start ≡ start

-- it has this name, its own lock by this handle, and its directory with these files, and has emitted the units of its text
pub record IsWorking (job : Job) (its : SessionName) (handle : ℕ) (files : List (Text × Known)) (steps : Steps) : Type 0 where
  pub named : name steps ≡ Some its
  pub locked : own steps ≡ Locked handle
  pub has_dir : HasDir steps job.krate (working_text its) files
  pub rose : (start : ℕ) → metered (units_of job) steps start ≡ raised start (units_of job)

-- the step that made its directory
abbrev pub making : Job → SessionName → Op × Reply
making job its = (MakeDir job.krate (working_text its), Done)

-- its ending is still to come: it has no directory, or its text has no error and its directory isn't published
abbrev pub IsEarly : Job → Steps → Type 0
IsEarly job steps =
    (dir steps ≡ Unmade)
    ⊎ ((made : Made) × (its : SessionName) × (files : List (Text × Known)) × ((compiled_of job).made ≡ Some made) × HasDir steps job.krate (working_text its) files)

-- ---- How it ends.

-- The latest step was answered by a fault, and the ending was still to come.
pub record IsCutByFault (job : Job) (steps : Steps) : Type 0 where
  pub asked : Op
  pub before : Steps
  pub made : steps ≡ (asked, Fault) ∷ before
  pub early : IsEarly job before

-- The latest step got this reply, which disagrees with the steps before it.
pub record IsDisturbedBy (job : Job) (asked : Op) (reply : Reply) (steps : Steps) : Type 0 where
  pub before : Steps
  pub made : steps ≡ (asked, reply) ∷ before
  pub disturbs : IsDisturbing asked reply
  pub early : IsEarly job before

-- It lost so many names, and tried to make no directory.
pub record HasLost (job : Job) (names : ℕ) (steps : Steps) : Type 0 where
  pub count : lost_names steps ≡ names
  pub untried : ¬ HasTriedDir steps
  pub still : (start : ℕ) → metered (units_of job) steps start ≡ start

-- The steps before the ending are these, its steps are those of the plan, and the note says whether one of them was
-- answered by a fault.
pub record IsEnding (plan : Plan Bool) (before : Steps) (note : Bool) (steps : Steps) : Type 0 where
  pub ending : Steps
  pub made : steps ≡ ending ++ before
  pub whole : Ends plan ending note
  pub noted : note ≡ has_fault ending

-- It saved what was made of its text, under its own lock: its directory had exactly the files, each with its bytes, and
-- the latest step, which published it, was answered `Done`.
pub record HasSaved (job : Job) (its : SessionName) (handle : ℕ) (steps : Steps) : Type 0 where
  pub made : Made
  pub compiled : (compiled_of job).made ≡ Some made
  pub files : List (Text × Known)
  pub before : Steps
  pub is : steps ≡ (publishing job its, Done) ∷ before
  pub working : IsWorking job its handle files before
  pub complete : complete files ≡ Some made.files
  pub out : dir steps ≡ Published job.krate (final_text its (job_hash_of job)) files

-- It published what its text compiles to, emitted each of its units, and closed its lock.
pub record HasBuilt (job : Job) (diags image : Text) (used : Used) (note : Bool) (steps : Steps) : Type 0 where
  pub its : SessionName
  pub handle : ℕ
  pub made : Made
  pub compiled : (compiled_of job).made ≡ Some made
  pub diags_are : diags ≡ (compiled_of job).diags
  pub image_is : image ≡ made.image
  pub units_are : used.units ≡ made.units
  pub all_emitted : used.emitted ≡ made.units
  pub before : Steps
  pub saved : HasSaved job its handle before
  pub closed : Reply
  pub ended : steps ≡ (Close handle, closed) ∷ before
  pub noted : note ≡ has_fault ((Close handle, closed) ∷ [])
  pub rose : (start : ℕ) → metered (units_of job) steps start ≡ raised start made.units

-- Its text has errors: after it made its directory it took that away, then its lock file, and at last closed its lock. It
-- emitted nothing, and has no directory any more where the removal was answered `Done`.
pub record HasFailed (job : Job) (diags : Text) (note : Bool) (steps : Steps) : Type 0 where
  pub its : SessionName
  pub handle : ℕ
  pub errors : (compiled_of job).made ≡ None
  pub diags_are : diags ≡ (compiled_of job).diags
  pub before : Steps
  pub ended : IsEnding (fails job.krate its handle) (making job its ∷ before) note steps
  pub sooner : Steps
  pub closed : Reply
  pub last : steps ≡ (Close handle, closed) ∷ sooner
  pub named : name steps ≡ Some its
  pub removed : removed_by steps ≡ Some Done → dir steps ≡ Removed
  pub rose : (start : ℕ) → metered (units_of job) steps start ≡ raised start 0

-- why a session of this job ends with this outcome
abbrev pub IsCauseOf : Job → Outcome → Steps → Type 0
IsCauseOf job (Built diags image used note) steps = HasBuilt job diags image used note steps
IsCauseOf job (Errors diags note) steps = HasFailed job diags note steps
IsCauseOf job DiskFault steps = IsCutByFault job steps
IsCauseOf job (Lost names) steps = (names ≡ most_names) × HasLost job names steps
IsCauseOf job (Disturbed asked reply) steps = IsDisturbedBy job asked reply steps

-- These steps are the whole order of a session of this job, which ended with this outcome, and they are its cause.
pub record IsEndOf (job : Job) (outcome : Outcome) (steps : Steps) : Type 0 where
  pub whole : Ends (plan_of job) steps outcome
  pub cause : IsCauseOf job outcome steps

-- ---- Where a part ends.

abbrev pub NamingFits : Job → ℕ → NamingEnd → Steps → Type 0
NamingFits job names (naming.Named its handle) steps = IsWorking job its handle [] steps × ((before : Steps) × (steps ≡ making job its ∷ before))
NamingFits job names naming.Lost steps = HasLost job names steps
NamingFits job names naming.DiskFault steps = IsCutByFault job steps
NamingFits job names (naming.Disturbed asked reply) steps = IsDisturbedBy job asked reply steps

abbrev pub SaveFits : Job → SessionName → ℕ → SaveEnd → Steps → Type 0
SaveFits job its handle Saved steps = HasSaved job its handle steps
SaveFits job its handle Faulted steps = IsCutByFault job steps
SaveFits job its handle (Off asked reply) steps = IsDisturbedBy job asked reply steps
