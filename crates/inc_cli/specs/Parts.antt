-- The parts of a command, and how each of them is refused.
use Rattle.std.specs.Prelude.{◌≡◌, ◌⊎◌, ℕ, Bool, List, Option, Some, None, IfSome}
use Rattle.inc_base.specs.Meters.{raised}
use Rattle.inc_base.specs.Outside.{IsReadOut, Rose}
use Rattle.inc_base.specs.declared.job.Job.{Job}
use Rattle.inc_fs.specs.Paths.{Text}
use Rattle.inc_proto.specs.Events.{Steps}
use Rattle.inc_session.specs.declared.outcome.Outcome.{Outcome}
use Rattle.inc_session.specs.declared.outcome.Outcome.TheVariants.{Built as Published, Errors as WithErrors, DiskFault, Lost as AllLost, Disturbed as DisturbedBy}
use Rattle.inc_session.specs.declared.outcome.Used.{Used}
use Rattle.rs_queries.specs.Limits.{over_limit}
use Rattle.rs_queries.specs.Reading.{IsReading}
use Rattle.rs_queries.specs.declared.reading.Reading.{Reading}
use Rattle.inc_cli.specs.declared.answer.Answer.{Answer}
use Rattle.inc_cli.specs.declared.answer.Answer.TheVariants.{Built, Failed, Cleaned}
use Rattle.inc_cli.specs.declared.status.Status.{Status}
use Rattle.inc_cli.specs.declared.status.Status.TheVariants.{DirectoryFault, SourceFault, OutOfMemory, Lost, OverLimit, Disturbed}
use Rattle.inc_cli.specs.Run.{Telling, IsTextOf, HasVisited, HasNotBegun, IsSoFar, HasBuiltThis, HasFailedSo, IsCut, HasLostAll, IsDisturbed}

-- this is the text that the source gave, which was read to its end, and its reading
pub record IsText (text : List ℕ) (reading : Reading) (old new : Option (List ℕ)) : Type 0 where
  pub of_source : IsTextOf old text
  pub read : IsReadOut old new
  pub is : IsReading text reading

-- why the source gives no text
abbrev pub FailsText : Status → Option (List ℕ) → ℕ → ℕ → Type 0
FailsText SourceFault left before now = Rose before now
FailsText (OverLimit limit) left before now = IfSome left (λ left. over_limit left ≡ Some limit)
FailsText OutOfMemory left before now = Unit {0}
FailsText status left before now = ⊥

-- a session of this job visited the directory, and its steps are as the statement has it
pub record Visited (IsEnd : Job → Steps → Type 0) (job : Job) (old new : Telling) : Type 0 where
  pub steps : Steps
  pub visited : HasVisited job steps old new
  pub ends : IsEnd job steps

-- it published, and this is what it built
pub record BuildsSo (job : Job) (diags image : Text) (used : Used) (note : Bool) (old new : Telling) (before now : ℕ) : Type 0 where
  pub visit : Visited (HasBuiltThis diags image used note) job old new
  pub meter : now ≡ raised before used.units

-- its text has errors
pub record FailsSo (job : Job) (diags : Text) (note : Bool) (old new : Telling) (before now : ℕ) : Type 0 where
  pub visit : Visited (HasFailedSo diags note) job old new
  pub meter : now ≡ raised before 0

-- it came to this answer
abbrev pub HasSession : Job → Answer → Telling → Telling → ℕ → ℕ → Type 0
HasSession job (Built diags image used note) old new before now = BuildsSo job diags image used note old new before now
HasSession job (Failed diags note) old new before now = FailsSo job diags note old new before now
HasSession job (Cleaned build) old new before now = ⊥

-- it lost its names, and emitted nothing
pub record LosesNames (job : Job) (old new : Telling) (before now : ℕ) : Type 0 where
  pub visit : Visited HasLostAll job old new
  pub meter : now ≡ before

-- The counts of a directory's faults, and a meter, before and after.
pub record Counts : Type 0 where
  pub faults : ℕ
  pub meter : ℕ

-- why it came to none
abbrev pub FailsSession : Status → Job → Telling → Telling → Counts → Counts → Type 0
FailsSession DirectoryFault job old new before now = Visited IsCut job old new × Rose before.faults now.faults
FailsSession Lost job old new before now = LosesNames job old new before.meter now.meter
FailsSession Disturbed job old new before now = Visited IsDisturbed job old new
FailsSession OutOfMemory job old new before now = HasNotBegun old new ⊎ Visited IsSoFar job old new
FailsSession status job old new before now = ⊥

-- the outcome is this answer's
abbrev pub HasOutcome : Option Outcome → Answer → Type 0
HasOutcome outcome (Built diags image used note) = outcome ≡ Some (Published diags image used note)
HasOutcome outcome (Failed diags note) = outcome ≡ Some (WithErrors diags note)
HasOutcome outcome (Cleaned build) = ⊥

-- the outcome is the status's cause
abbrev pub FailsOutcome : Option Outcome → Status → Type 0
FailsOutcome (Some DiskFault) DirectoryFault = Unit {0}
FailsOutcome (Some (AllLost names)) Lost = Unit {0}
FailsOutcome (Some (DisturbedBy asked reply)) Disturbed = Unit {0}
FailsOutcome None OutOfMemory = Unit {0}
FailsOutcome outcome status = ⊥
