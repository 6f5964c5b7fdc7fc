-- A leaving keeps the laws, between two steps or within an append (`spoiled_fits`, `appended_wholes`). (What the end does to handles and locks is the directory's law `Others`.)
use Rattle.std.proofs.Common.{◌≡◌, ◌≢◌, ℕ, ◌∷◌, List, length, sym, ◌∙◌, subst, Option}
use Rattle.inc_fs.specs.State.{State, Text, opened_at, folder_at, lock_at}
use Rattle.inc_fs.specs.declared.op.Op.{Op}
use Rattle.inc_proto.specs.declared.own.Known.{Known}
use Rattle.inc_proto.specs.Events.{own_steps}
use Rattle.inc_laws.specs.Readings.{names_of, makers_of, opens_of, modes_of, jobs_of, sites_of, owns_of, dirs_of}
use Rattle.inc_proto.specs.declared.event.Event.{Event}
use Rattle.inc_proto.specs.declared.event.Event.TheVariants.{Left}
use Rattle.inc_proto.specs.Files.{Files}
use Rattle.inc_laws.specs.Laws.{Laws}
use Rattle.inc_laws.specs.Parts.{FitsView, DrawnOnce, LockFilesOnce, HandlesAgree, OwnDirKnown, DirsOwned, FilesPrivate, NamesSole, FinalsComplete, PublishedStands}
use Rattle.inc_fs.specs.Readings.{bytes_of, locks_of}
use Rattle.inc_laws.proofs.Leaves.{Others, left_handles, left_own_locks, left_own_dir}
use Rattle.inc_laws.proofs.Begins.{runs_left}
use Rattle.inc_laws.specs.Parts.{OwnLocksHeld}

module _ (files : Files) (H : List Event) (F G : State) (l : Laws files H F) (who : ℕ) (during : Option Op) (cut : ℕ) (t : Others who (opened_at F) (opened_at G) (locks_of F) (locks_of G))
    (folders : folder_at F ≡ folder_at G) (lock_files : lock_at F ≡ lock_at G) (next : ℕ → Option Text) (bytes : next ≡ bytes_of G) (drawn : F.drawn ≡ G.drawn) (given : F.given ≡ G.given) (long : length F.files ≡ length G.files)
    (fits : (v : ℕ) → v ≢ who → (x : Text) (found : Option ℕ) (known : Option Known) → FitsView files (jobs_of H) (sites_of H) (makers_of H) (bytes_of F) v x found known → FitsView files (jobs_of H) (sites_of H) (makers_of H) next v x found known)
    (whole : FinalsComplete files (jobs_of H) (sites_of H) (folder_at F) next) where
  pub leave_keeps : Laws files (Left who during cut ∷ H) G
  leave_keeps = record {
    numbers = record { fresh = l.numbers.fresh };
    names_once = subst (DrawnOnce (names_of H)) drawn l.names_once;
    own_names = l.own_names;
    counted = record { is = sym long ∙ l.counted.is; below = l.counted.below };
    lock_files = subst (LockFilesOnce (λ w. own_steps w H) (names_of H) (makers_of H)) lock_files l.lock_files;
    handles = subst (λ (P : Type 0). P) (λ i. HandlesAgree (sym (runs_left who during cut H) i) (opens_of H) (modes_of H) (makers_of H) (opened_at G) (locks_of G) (given i)) (left_handles l.handles who t);
    own_locks = subst (λ runs. OwnLocksHeld runs (jobs_of H) (names_of H) (opens_of H) (modes_of H) (owns_of H)) (sym (runs_left who during cut H)) (left_own_locks l.handles who t l.own_locks);
    settled = l.settled;
    own_dir = subst (λ (P : Type 0). P) (λ i. OwnDirKnown files (sym (runs_left who during cut H) i) (jobs_of H) (owns_of H) (sites_of H) (dirs_of H) (makers_of H) (folders i) (bytes i))
        (left_own_dir l.handles who t files (jobs_of H) (owns_of H) (sites_of H) (dirs_of H) (bytes_of F) next (folder_at F) fits l.own_dir);
    dirs = subst (DirsOwned (sites_of H)) folders l.dirs;
    file_names = subst (FilesPrivate (sites_of H) (makers_of H)) folders l.file_names;
    sole_names = subst (NamesSole (sites_of H) (makers_of H)) folders l.sole_names;
    wholes = subst (λ (P : Type 0). P) (λ i. FinalsComplete files (jobs_of H) (sites_of H) (folders i) (bytes i)) whole;
    newest = subst (PublishedStands (sites_of H)) folders l.newest;
    looked = l.looked;
  }
