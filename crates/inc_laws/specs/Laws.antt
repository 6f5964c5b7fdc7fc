-- What every event of a legal history keeps.
use Rattle.std.specs.Prelude.{List}
use Rattle.inc_fs.specs.Readings.{bytes_of, locks_of}
use Rattle.inc_fs.specs.State.{State, folder_at, lock_at, opened_at}
use Rattle.inc_proto.specs.declared.event.Event.{Event}
use Rattle.inc_proto.specs.Events.{own_steps}
use Rattle.inc_proto.specs.Files.{Files}
use Rattle.inc_laws.specs.Readings.{names_of, jobs_of, runs_of, dirs_of, sites_of, owns_of, opens_of, modes_of, makers_of, count}
use Rattle.inc_laws.specs.Parts.{BegunOnce, DrawnOnce, OwnNames, LockFilesOnce, FilesCounted, HandlesAgree, OwnLocksHeld, LocksSettled, FilesPrivate, NamesSole, OwnDirKnown, DirsOwned, FinalsComplete, PublishedStands, LookedPublished}

-- The invariants with what makes them inductive, of a history and a state that it leads to.
pub record Laws (files : Files) (events : List Event) (F : State) : Type 0 where
  pub numbers : BegunOnce events
  pub names_once : DrawnOnce (names_of events) F.drawn
  pub own_names : OwnNames (jobs_of events) (names_of events) (sites_of events)
  pub counted : FilesCounted (makers_of events) (count events) F.files
  pub lock_files : LockFilesOnce (λ who. own_steps who events) (names_of events) (makers_of events) (lock_at F)
  pub handles : HandlesAgree (runs_of events) (opens_of events) (modes_of events) (makers_of events) (opened_at F) (locks_of F) F.given
  pub own_locks : OwnLocksHeld (runs_of events) (jobs_of events) (names_of events) (opens_of events) (modes_of events) (owns_of events)
  pub settled : LocksSettled (sites_of events) (owns_of events) (names_of events) (λ who. own_steps who events)
  pub own_dir : OwnDirKnown files (runs_of events) (jobs_of events) (owns_of events) (sites_of events) (dirs_of events) (makers_of events) (folder_at F) (bytes_of F)
  pub dirs : DirsOwned (sites_of events) (folder_at F)
  pub file_names : FilesPrivate (sites_of events) (makers_of events) (folder_at F)
  pub sole_names : NamesSole (sites_of events) (makers_of events) (folder_at F)
  pub wholes : FinalsComplete files (jobs_of events) (sites_of events) (folder_at F) (bytes_of F)
  pub newest : PublishedStands (sites_of events) (folder_at F)
  pub looked : LookedPublished (λ who. own_steps who events) (sites_of events)
