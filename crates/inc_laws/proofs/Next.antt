-- The laws of the next history, from the laws of what its readings are.
use Rattle.std.proofs.Common.{◌≡◌, ◌≢◌, ℕ, ◌==◌, List, [], ◌∷◌, Bool, true, false, cond, ◌∙◌, subst, None, Some, Option, inl, inr, ◌⊎◌}
use Rattle.inc_base.specs.declared.job.Job.{Job}
use Rattle.inc_fs.specs.declared.op.Op.{Op}
use Rattle.inc_fs.specs.declared.op.Reply.{Reply}
use Rattle.inc_fs.specs.declared.state.Lock.{Lock}
use Rattle.inc_fs.specs.declared.state.Handle.{Handle}
use Rattle.inc_fs.specs.State.{State, Text, opened_at, folder_at, lock_at}
use Rattle.inc_names.specs.declared.session.SessionName.{SessionName}
use Rattle.inc_proto.specs.Views.{Opening, Dir, HasTried, HasLooked, IsLook}
use Rattle.inc_laws.specs.Readings.{running, Maker, count, Site, runs_of, jobs_of, names_of, opens_of, modes_of, owns_of, dirs_of, sites_of, makers_of}
use Rattle.inc_proto.specs.declared.own.OwnLock.{OwnLock}
use Rattle.inc_proto.specs.Events.{own_steps, job_of, is_running}
use Rattle.inc_names.specs.Entries.{final_text}
use Rattle.inc_proto.specs.declared.event.Event.{Event}
use Rattle.inc_proto.specs.declared.event.Event.TheVariants.{Did}
use Rattle.inc_proto.specs.Files.{Files}
use Rattle.inc_laws.specs.Laws.{Laws}
use Rattle.inc_laws.specs.Parts.{BegunOnce, DrawnOnce, OwnNames, FilesCounted, LockFilesOnce, HandlesAgree, OwnLocksHeld, LocksSettled, OwnDirKnown, DirsOwned, FilesPrivate, NamesSole, FinalsComplete, PublishedStands, LookedPublished}
use Rattle.inc_fs.specs.Readings.{bytes_of, locks_of}
use Rattle.inc_fs.specs.Points.{there, same_number}
use Rattle.inc_laws.proofs.Readings.{at_step}
use Rattle.inc_laws.proofs.Mono.{none_some}
use Rattle.inc_laws.proofs.Readings.{at_step}

-- what the readings of a history and its state are
pub record Next (events : List Event) (G : State) : Type 0 where
  pub names : ℕ → List SessionName
  pub sites : ℕ → Site
  pub dirs : ℕ → Dir
  pub owns : ℕ → OwnLock
  pub opens : ℕ → ℕ → Option Opening
  pub modes : ℕ → ℕ → Option Bool
  pub makers : ℕ → Option Maker
  pub folders : Text → Text → Option (List (Text × ℕ))
  pub lock_files : Text → Text → Option ℕ
  pub bytes : ℕ → Option Text
  pub locks : ℕ → Option Lock
  pub handles : ℕ → Option Handle
  pub names_are : names ≡ names_of events
  pub sites_are : sites ≡ sites_of events
  pub dirs_are : dirs ≡ dirs_of events
  pub owns_are : owns ≡ owns_of events
  pub opens_are : opens ≡ opens_of events
  pub modes_are : modes ≡ modes_of events
  pub makers_are : makers ≡ makers_of events
  pub folders_are : folders ≡ folder_at G
  pub lock_files_are : lock_files ≡ lock_at G
  pub bytes_are : bytes ≡ bytes_of G
  pub locks_are : locks ≡ locks_of G
  pub handles_are : handles ≡ opened_at G

module _ (files : Files) (events : List Event) (G : State) (n : Next events G) where
  pub assembled : BegunOnce events → DrawnOnce n.names G.drawn → OwnNames (jobs_of events) n.names n.sites → FilesCounted n.makers (count events) G.files
      → LockFilesOnce (λ who. own_steps who events) n.names n.makers n.lock_files → HandlesAgree (runs_of events) n.opens n.modes n.makers n.handles n.locks G.given
      → OwnLocksHeld (runs_of events) (jobs_of events) n.names n.opens n.modes n.owns
      → LocksSettled n.sites n.owns n.names (λ who. own_steps who events)
      → OwnDirKnown files (runs_of events) (jobs_of events) n.owns n.sites n.dirs n.makers n.folders n.bytes
      → DirsOwned n.sites n.folders → FilesPrivate n.sites n.makers n.folders → NamesSole n.sites n.makers n.folders → FinalsComplete files (jobs_of events) n.sites n.folders n.bytes
      → PublishedStands n.sites n.folders → LookedPublished (λ who. own_steps who events) n.sites → Laws files events G
  assembled a b c d e f g g2 h i j j2 k l m = record {
    numbers = a;
    names_once = subst (λ names. DrawnOnce names G.drawn) n.names_are b;
    own_names = subst (λ (P : Type 0). P) (λ x. OwnNames (jobs_of events) (n.names_are x) (n.sites_are x)) c;
    counted = subst (λ makers. FilesCounted makers (count events) G.files) n.makers_are d;
    lock_files = subst (λ (P : Type 0). P) (λ x. LockFilesOnce (λ who. own_steps who events) (n.names_are x) (n.makers_are x) (n.lock_files_are x)) e;
    handles = subst (λ (P : Type 0). P) (λ x. HandlesAgree (runs_of events) (n.opens_are x) (n.modes_are x) (n.makers_are x) (n.handles_are x) (n.locks_are x) G.given) f;
    own_locks = subst (λ (P : Type 0). P) (λ x. OwnLocksHeld (runs_of events) (jobs_of events) (n.names_are x) (n.opens_are x) (n.modes_are x) (n.owns_are x)) g;
    settled = subst (λ (P : Type 0). P) (λ x. LocksSettled (n.sites_are x) (n.owns_are x) (n.names_are x) (λ who. own_steps who events)) g2;
    own_dir = subst (λ (P : Type 0). P) (λ x. OwnDirKnown files (runs_of events) (jobs_of events) (n.owns_are x) (n.sites_are x) (n.dirs_are x) (n.makers_are x) (n.folders_are x) (n.bytes_are x)) h;
    dirs = subst (λ (P : Type 0). P) (λ x. DirsOwned (n.sites_are x) (n.folders_are x)) i;
    file_names = subst (λ (P : Type 0). P) (λ x. FilesPrivate (n.sites_are x) (n.makers_are x) (n.folders_are x)) j;
    sole_names = subst (λ (P : Type 0). P) (λ x. NamesSole (n.sites_are x) (n.makers_are x) (n.folders_are x)) j2;
    wholes = subst (λ (P : Type 0). P) (λ x. FinalsComplete files (jobs_of events) (n.sites_are x) (n.folders_are x) (n.bytes_are x)) k;
    newest = subst (λ (P : Type 0). P) (λ x. PublishedStands (n.sites_are x) (n.folders_are x)) l;
    looked = subst (λ sites. LookedPublished (λ who. own_steps who events) sites) n.sites_are m;
  }

-- a session that runs has its job
pub runs_job : (H : List Event) (who : ℕ) (job : Job) → running who H ≡ Some job → job_of who H ≡ Some job
runs_job H who job r = go (is_running who H) r
  where
    go : (b : Bool) → cond b (job_of who H) None ≡ Some job → job_of who H ≡ Some job
    go true is = is
    go false is = cc

-- what a step of a running session leaves alone
module _ (H : List Event) (who : ℕ) (op : Op) (reply : Reply) (job : Job) (l : BegunOnce H) (r : running who H ≡ Some job) where
  pub numbers_did : BegunOnce (Did who op reply ∷ H)
  numbers_did = record { fresh = λ w h. (no_steps w (l.fresh w h) (same_number who w), (l.fresh w h).1) }
    where
      no_steps : (w : ℕ) → (own_steps w H ≡ []) × (job_of w H ≡ None) → (who ≡ w) ⊎ (who ≢ w) → own_steps w (Did who op reply ∷ H) ≡ []
      no_steps w f (inl is) = absurd (none_some job (job_of w H) f.1 (runs_job H w job (subst (λ v. running v H ≡ Some job) is r)))
      no_steps w f (inr off) = (λ i. at_step (λ s. s) who op reply H i w) ∙ there (λ v. own_steps v H) who ((op, reply) ∷ own_steps who H) w off ∙ f.0

module _ (H : List Event) (who : ℕ) (op : Op) (reply : Reply) where
  pub tried_stays : (o : Op) (w : ℕ) → HasTried o (own_steps w H) → HasTried o (own_steps w (Did who op reply ∷ H))
  tried_stays o w = go (who == w)
    where
      go : (b : Bool) → HasTried o (own_steps w H) → HasTried o (cond b ((op, reply) ∷ own_steps w H) (own_steps w H))
      go true h = inr h
      go false h = h

  pub looked_before : (krate entry : Text) (w : ℕ) → ¬ IsLook krate entry (op, reply) → HasLooked krate entry (own_steps w (Did who op reply ∷ H)) → HasLooked krate entry (own_steps w H)
  looked_before krate entry w not = go (who == w)
    where
      go : (b : Bool) → HasLooked krate entry (cond b ((op, reply) ∷ own_steps w H) (own_steps w H)) → HasLooked krate entry (own_steps w H)
      go true (inl is) = absurd (not is)
      go true (inr h) = h
      go false h = h

-- the laws on what was tried and seen, where a step changes nothing else of them
module _ (files : Files) (H : List Event) (F : State) (who : ℕ) (op : Op) (reply : Reply) (l : Laws files H F) where
  pub lock_files_stay : LockFilesOnce (λ w. own_steps w (Did who op reply ∷ H)) (names_of H) (makers_of H) (lock_at F)
  lock_files_stay = record {
    entry = l.lock_files.entry;
    one = l.lock_files.one;
    tried = λ k e f is. let t = l.lock_files.tried k e f is in (t.0, t.1, t.2, t.3, tried_stays H who op reply _ t.0 t.4);
  }

  pub settled_stay : LocksSettled (sites_of H) (owns_of H) (names_of H) (λ w. own_steps w (Did who op reply ∷ H))
  settled_stay = record { not_open = l.settled.not_open; has_tried = λ w k e n at c. tried_stays H who op reply _ w (l.settled.has_tried w k e n at c) }

  pub looked_stay : ((k e : Text) → ¬ IsLook k e (op, reply)) → LookedPublished (λ w. own_steps w (Did who op reply ∷ H)) (sites_of H)
  looked_stay unseen w k m hash saw = l.looked w k m hash (looked_before H who op reply k (final_text m hash) w (unseen k (final_text m hash)) saw)
