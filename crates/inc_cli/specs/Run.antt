-- What a top call leaves, by how it ends.
use Rattle.std.specs.Prelude.{◌≡◌, ◌⊎◌, ℕ, ◌++◌, Bool, List, [], ◌∷◌, Option, Some, None, IfSome}
use Rattle.std.specs.Io.KnownBytes.{Appends}
use Rattle.inc_base.specs.Meters.{raised}
use Rattle.inc_base.specs.Outside.{AppendsFront, IsReadOut, Rose}
use Rattle.inc_base.specs.declared.job.Compiler.{Compiler}
use Rattle.inc_base.specs.declared.job.Job.{Job}
use Rattle.inc_fs.specs.Paths.{Text}
use Rattle.inc_fs.specs.Readings.{bytes_of}
use Rattle.inc_fs.specs.State.{State, folder_at}
use Rattle.inc_fs.specs.declared.op.Op.{Op}
use Rattle.inc_fs.specs.declared.op.Reply.{Reply}
use Rattle.inc_fs.specs.declared.op.Reply.TheVariants.{Done as WasDone}
use Rattle.inc_laws.specs.Parts.{HoldsSet}
use Rattle.inc_laws.specs.Readings.{sites_of}
use Rattle.inc_laws.specs.Readings.Site.{Out}
use Rattle.inc_names.specs.declared.session.SessionName.{SessionName}
use Rattle.inc_names.specs.Entries.{working_text, final_text, IsNewer}
use Rattle.inc_plan.specs.Plan.{Follows}
use Rattle.inc_proto.specs.declared.event.Event.{Event}
use Rattle.inc_proto.specs.declared.event.Event.TheVariants.{Begin, Left}
use Rattle.inc_proto.specs.Events.{Steps, did, latest, own_steps}
use Rattle.inc_proto.specs.Files.{IsSet}
use Rattle.inc_proto.specs.Growth.{TellsBy, TellsOn, AddsOne}
use Rattle.inc_proto.specs.Leads.{LeadsTo}
use Rattle.inc_dir.specs.Promises.{IsRefusal}
use Rattle.inc_session.specs.Ending.{removed_by}
use Rattle.inc_session.specs.Ends.{IsEndOf}
use Rattle.inc_session.specs.Order.{plan_of}
use Rattle.inc_session.specs.Saves.{IsLegalHere, saved_files}
use Rattle.inc_session.specs.declared.outcome.Outcome.TheVariants.{Built as Published, Errors as WithErrors, DiskFault, Lost as AllLost, Disturbed as DisturbedBy}
use Rattle.inc_session.specs.declared.outcome.Used.{Used}
use Rattle.inc_wire.specs.Forms.{job_hash_of}
use Rattle.inc_words.specs.Words.{AsksFor, AreRefused}
use Rattle.inc_words.specs.declared.words.Command.{Command}
use Rattle.inc_words.specs.declared.words.Command.TheVariants.{Build, Clean}
use Rattle.link_laws.specs.Told.{AreLines, Tells}
use Rattle.rs_lines.specs.declared.line.Line.{Line}
use Rattle.rs_queries.specs.Built.{IsClean}
use Rattle.rs_queries.specs.Limits.{over_limit}
use Rattle.rs_queries.specs.declared.compiled.CleanBuild.{CleanBuild}
use Rattle.rs_queries.specs.declared.limit.Limit.{Limit}
use Rattle.inc_cli.specs.declared.answer.Answer.{Answer}
use Rattle.inc_cli.specs.declared.answer.Answer.TheVariants.{Built, Failed, Cleaned}
use Rattle.inc_cli.specs.declared.status.Status.{Status}
use Rattle.inc_cli.specs.declared.status.Status.TheVariants.{Done, Errors, BadWords, DirectoryFault, SinkFault, SourceFault, OutOfMemory, Lost, OverLimit, Disturbed}
use Rattle.inc_cli.specs.Statuses.{image_of, line_of, lines_of, status_with}

-- It is the clean build of this text at this level. It prints the lines of the text, and has an image exactly where none of them is an error's.
pub record IsCleanOf (text : List ℕ) (level : ℕ) (build : CleanBuild) : Type 0 where
  pub is : IsClean text level build
  pub tells : (lines : List Line) → AreLines text lines → Tells build lines

-- The text that a source gave, where it told what it had left: all of that. It passes no limit.
pub record IsTextOf (left : Option (List ℕ)) (text : List ℕ) : Type 0 where
  pub whole : IfSome left (λ all. text ≡ all)
  pub within : over_limit text ≡ None

-- The job of the words and the text: they ask for a build of its crate by its compiler, and its text is that of the source.
pub record IsJobOf (words : List (List ℕ)) (left : Option (List ℕ)) (job : Job) : Type 0 where
  pub asks : AsksFor words (Build job.krate job.compiler)
  pub text : IsTextOf left job.text

-- What a directory tells: its history, and the numbers of its own sessions, the latest first.
pub record Telling : Type 0 where
  pub told : Option (List Event)
  pub own : List ℕ

-- the number of its latest own session
abbrev pub session_of : Telling → ℕ
session_of telling = latest telling.own

-- The told steps are all that the session was answered, but for a renaming that the directory refused, which was the last.
abbrev pub AreTold : Steps → Steps → Type 0
AreTold steps told = (told ≡ steps) ⊎ ((op : Op) × (reply : Reply) × IsRefusal op reply × (steps ≡ (op, reply) ∷ told))

-- A session of this job has visited the directory. Where the history is told, exactly one number was put before the own
-- ones, and the history, which stays legal, grew by this session's beginning, its told steps and its leaving, with others' events before each.
pub record HasVisited (job : Job) (steps : Steps) (old new : Telling) : Type 0 where
  pub one : AddsOne old.told old.own new.own
  pub told_steps : Steps
  pub are_told : AreTold steps told_steps
  pub told : TellsBy IsLegalHere new.own old.told new.told (Left (session_of new) None 0 ∷ (did (session_of new) told_steps ++ Begin (session_of new) job ∷ []))

-- No session began. Where the history is told, it grew by others' events alone.
pub record HasNotBegun (old new : Telling) : Type 0 where
  pub own : new.own ≡ old.own
  pub others : TellsOn IsLegalHere old.own old.told new.told []

-- A session of the job of the words and the text visited the directory, and its steps are as the statement has it. Where
-- the history is told, the told ones of them are what it has as the session's own.
pub record Visit (IsEnd : Job → Steps → Type 0) (words : List (List ℕ)) (left : Option (List ℕ)) (old new : Telling) : Type 0 where
  pub job : Job
  pub steps : Steps
  pub of_job : IsJobOf words left job
  pub visited : HasVisited job steps old new
  pub ends : IsEnd job steps
  pub told : IfSome new.told (λ history. own_steps (session_of new) history ≡ visited.told_steps)

-- its steps are those of its order, as far as it goes
abbrev pub IsSoFar : Job → Steps → Type 0
IsSoFar job steps = Follows (plan_of job) steps

-- it ended so: it published; its text has errors; a fault cut it; it lost its names; a reply disagreed with its own steps
abbrev pub HasBuiltThis : Text → Text → Used → Bool → Job → Steps → Type 0
HasBuiltThis diags image used note job steps = IsEndOf job (Published diags image used note) steps

abbrev pub HasFailedSo : Text → Bool → Job → Steps → Type 0
HasFailedSo diags note job steps = IsEndOf job (WithErrors diags note) steps

abbrev pub IsCut : Job → Steps → Type 0
IsCut job steps = IsEndOf job DiskFault steps

abbrev pub HasLostAll : Job → Steps → Type 0
HasLostAll job steps = (names : ℕ) × IsEndOf job (AllLost names) steps

abbrev pub IsDisturbed : Job → Steps → Type 0
IsDisturbed job steps = (asked : Op) × (reply : Reply) × IsEndOf job (DisturbedBy asked reply) steps

-- By this history the session published its directory under this name. In the state F that directory stands, with exactly
-- the files that the job's text compiles to, or a directory of the crate with a newer name was published.
pub record HasLeft (own : ℕ) (job : Job) (its : SessionName) (history : List Event) (F : State) : Type 0 where
  pub out : sites_of history own ≡ Out job.krate (final_text its (job_hash_of job))
  pub stands : ((folder : List (Text × ℕ)) × (set : List (Text × Text)) × (folder_at F job.krate (final_text its (job_hash_of job)) ≡ Some folder) × IsSet saved_files job set × HoldsSet (bytes_of F) folder set)
      ⊎ ((who : ℕ) × (newer : SessionName) × (hash : ℕ) × (sites_of history who ≡ Out job.krate (final_text newer hash)) × IsNewer newer its)

-- What a call works on: the bytes that the source has left and the count of its faults, what the directory tells and the
-- count of its faults, and the meter.
pub record Inputs : Type 0 where
  pub left : Option (List ℕ)
  pub source_faults : ℕ
  pub dir : Telling
  pub dir_faults : ℕ
  pub meter : ℕ

-- What it writes to: the bytes that the two sinks hold, and the counts of their faults.
pub record Outputs : Type 0 where
  pub out : Option (List ℕ)
  pub out_faults : ℕ
  pub image : Option (List ℕ)
  pub image_faults : ℕ

-- the directory and the meter are as before
pub record KeepsDir (old new : Inputs) : Type 0 where
  pub dir : new.dir ≡ old.dir
  pub faults : new.dir_faults ≡ old.dir_faults
  pub meter : new.meter ≡ old.meter

-- In the state F the session's directory is gone, where its removal was answered `Done`.
abbrev pub IsGone : Job → SessionName → Steps → State → Type 0
IsGone job its steps F = removed_by steps ≡ Some WasDone → folder_at F job.krate (working_text its) ≡ None

-- A session of the job made its whole order and published, all of it told, and emitted each unit of its text, which was
-- read to its end. The diagnostics, the image and the number of units are those of the clean build of that text. Where the
-- told history is legal, the published directory is as `HasLeft` says in each state that it leads to.
pub record HasPublished (words : List (List ℕ)) (diags image : Text) (used : Used) (note : Bool) (old new : Inputs) : Type 0 where
  pub visit : Visit (HasBuiltThis diags image used note) words old.left old.dir new.dir
  pub clean : IsCleanOf visit.job.text visit.job.compiler.level (record { diags = diags; image = Some image; units = used.units })
  pub each : used.emitted ≡ used.units
  pub all : visit.visited.told_steps ≡ visit.steps
  pub read : IsReadOut old.left new.left
  pub meter : new.meter ≡ raised old.meter used.emitted
  pub stands : (history : List Event) (F : State) → new.dir.told ≡ Some history → IsLegalHere history → LeadsTo history F
      → HasLeft (session_of new.dir) visit.job visit.ends.cause.its history F

-- A session of the job made its whole order and ended with errors, all of it told, and emitted nothing. The diagnostics are
-- those of the clean build of its text, which has no image. Where the told history is legal, its directory is gone in each
-- state that it leads to.
pub record HasFailed (words : List (List ℕ)) (diags : Text) (note : Bool) (old new : Inputs) : Type 0 where
  pub visit : Visit (HasFailedSo diags note) words old.left old.dir new.dir
  pub units : ℕ
  pub clean : IsCleanOf visit.job.text visit.job.compiler.level (record { diags = diags; image = None; units = units })
  pub all : visit.visited.told_steps ≡ visit.steps
  pub read : IsReadOut old.left new.left
  pub meter : new.meter ≡ old.meter
  pub gone : (history : List Event) (F : State) → new.dir.told ≡ Some history → IsLegalHere history → LeadsTo history F
      → IsGone visit.job visit.ends.cause.its visit.steps F

-- The words ask for a clean build, and this is that of the source's text, which was read to its end. The directory isn't touched.
pub record HasCleaned (words : List (List ℕ)) (build : CleanBuild) (old new : Inputs) : Type 0 where
  pub compiler : Compiler
  pub asks : AsksFor words (Clean compiler)
  pub text : List ℕ
  pub of_source : IsTextOf old.left text
  pub clean : IsCleanOf text compiler.level build
  pub read : IsReadOut old.left new.left
  pub keeps : KeepsDir old new

-- the command of the words came to this answer
abbrev pub ComesTo : List (List ℕ) → Answer → Inputs → Inputs → Type 0
ComesTo words (Built diags image used note) old new = HasPublished words diags image used note old new
ComesTo words (Failed diags note) old new = HasFailed words diags note old new
ComesTo words (Cleaned build) old new = HasCleaned words build old new

-- The words are refused, and nothing is touched.
pub record HasRefusedWords (words : List (List ℕ)) (old new : Inputs) : Type 0 where
  pub words_are : AreRefused words
  pub keeps : KeepsDir old new
  pub left : new.left ≡ old.left
  pub source : new.source_faults ≡ old.source_faults

-- The directory's count rose at a fault that cut the session's order, before its ending.
pub record HasFaulted (words : List (List ℕ)) (old new : Inputs) : Type 0 where
  pub visit : Visit IsCut words old.left old.dir new.dir
  pub read : IsReadOut old.left new.left
  pub faults : Rose old.dir_faults new.dir_faults

-- The source's count rose, and the directory isn't touched.
pub record HasFailedToRead (words : List (List ℕ)) (old new : Inputs) : Type 0 where
  pub command : Command
  pub asks : AsksFor words command
  pub faults : Rose old.source_faults new.source_faults
  pub keeps : KeepsDir old new

-- This is the first limit that what the source had left passes, where it tells, and the directory isn't touched.
pub record IsOverLimit (limit : Limit) (words : List (List ℕ)) (old new : Inputs) : Type 0 where
  pub command : Command
  pub asks : AsksFor words command
  pub over : IfSome old.left (λ left. over_limit left ≡ Some limit)
  pub keeps : KeepsDir old new

-- the words ask for a build
abbrev pub AskForBuild : List (List ℕ) → Type 0
AskForBuild words = (krate : List ℕ) × (compiler : Compiler) × AsksFor words (Build krate compiler)

-- There is no memory. The directory isn't touched; or, where the words ask for a build, no session began, or one left where
-- it stood.
abbrev pub HasNoMemory : List (List ℕ) → Inputs → Inputs → Type 0
HasNoMemory words old new = KeepsDir old new ⊎ AskForBuild words × HasNotBegun old.dir new.dir ⊎ Visit IsSoFar words old.left old.dir new.dir

-- The session lost each of its names.
pub record HasLost (words : List (List ℕ)) (old new : Inputs) : Type 0 where
  pub visit : Visit HasLostAll words old.left old.dir new.dir
  pub read : IsReadOut old.left new.left
  pub meter : new.meter ≡ old.meter

-- The last of the session's own steps disagrees with the others.
pub record HasDisturbed (words : List (List ℕ)) (old new : Inputs) : Type 0 where
  pub visit : Visit IsDisturbed words old.left old.dir new.dir
  pub read : IsReadOut old.left new.left

-- why the command of the words comes to no answer, by status
abbrev pub Refuses : Status → List (List ℕ) → Inputs → Inputs → Type 0
Refuses BadWords words old new = HasRefusedWords words old new
Refuses DirectoryFault words old new = HasFaulted words old new
Refuses SourceFault words old new = HasFailedToRead words old new
Refuses OutOfMemory words old new = HasNoMemory words old new
Refuses Lost words old new = HasLost words old new
Refuses (OverLimit limit) words old new = IsOverLimit limit words old new
Refuses Disturbed words old new = HasDisturbed words old new
Refuses status words old new = ⊥

-- `out` took this line, or, where its count rose, a front of it; `image` got nothing
pub record WritesLine (line : List ℕ) (old new : Outputs) : Type 0 where
  pub line_is : Appends old.out new.out line ⊎ Rose old.out_faults new.out_faults × AppendsFront old.out new.out line
  pub image : new.image ≡ old.image
  pub image_faults : new.image_faults ≡ old.image_faults

-- a sink took this image, or, where there is none, nothing, and its count is as before
abbrev pub TakesImage : Option (List ℕ) → Option (List ℕ) → Option (List ℕ) → ℕ → ℕ → Type 0
TakesImage (Some image) old new before now = Appends old new image
TakesImage None old new before now = (new ≡ old) × (now ≡ before)

-- it failed within it
abbrev pub FailsImage : Option (List ℕ) → Option (List ℕ) → Option (List ℕ) → ℕ → ℕ → Type 0
FailsImage (Some image) old new before now = Rose before now × AppendsFront old new image
FailsImage None old new before now = ⊥

-- `out` took these lines, and `image` the image
pub record WritesAll (lines : List ℕ) (image : Option (List ℕ)) (old new : Outputs) : Type 0 where
  pub out : Appends old.out new.out lines
  pub image_is : TakesImage image old.image new.image old.image_faults new.image_faults

-- `out` failed within its lines, and `image` was not begun; or `out` took its lines, and `image` failed within the image
abbrev pub FailsToWrite : List ℕ → Option (List ℕ) → Outputs → Outputs → Type 0
FailsToWrite lines image old new =
    (Rose old.out_faults new.out_faults × AppendsFront old.out new.out lines × (new.image ≡ old.image))
    ⊎ (Appends old.out new.out lines × FailsImage image old.image new.image old.image_faults new.image_faults)

-- the command came to an answer whose status, once it is written, is this, and all of it was written
abbrev pub Answers : Status → List (List ℕ) → Inputs → Inputs → Outputs → Outputs → Type 0
Answers status words old new before after =
    (answer : Answer) × ComesTo words answer old new × (status_with (image_of answer) ≡ status) × WritesAll (lines_of answer) (image_of answer) before after

-- A call that ends by this status: 0 and 1, it came to an answer, with an image and without, and wrote all of it; 4, it came
-- to one, and a sink failed; else it was refused for the status's cause, and wrote its line.
abbrev pub Ends : Status → List (List ℕ) → Inputs → Inputs → Outputs → Outputs → Type 0
Ends Done words old new before after = Answers Done words old new before after
Ends Errors words old new before after = Answers Errors words old new before after
Ends SinkFault words old new before after = (answer : Answer) × ComesTo words answer old new × FailsToWrite (lines_of answer) (image_of answer) before after
Ends status words old new before after = Refuses status words old new × WritesLine (line_of status) before after
