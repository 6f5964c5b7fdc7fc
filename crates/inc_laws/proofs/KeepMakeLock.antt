-- A lock file made, from the table to the laws.
use Rattle.std.proofs.Common.{◌≡◌, ℕ, ◌+◌, List, [], ◌∷◌, length, refl, ap, sym, ◌∙◌, subst, None, Some, inl, ◌<◌}
use Rattle.inc_base.specs.declared.job.Job.{Job}
use Rattle.inc_fs.specs.declared.state.Lock.TheVariants.{Free}
use Rattle.inc_fs.specs.declared.state.Entry.TheVariants.{LockFile}
use Rattle.inc_fs.specs.declared.op.Op.{Op}
use Rattle.inc_fs.specs.declared.op.Op.TheVariants.{MakeLock}
use Rattle.inc_fs.specs.declared.op.Reply.{Reply}
use Rattle.inc_fs.specs.declared.op.Reply.TheVariants.{Handle as GotHandle}
use Rattle.inc_fs.specs.State.{State, Text, IsIn, opened_at, folder_at, lock_at, entry_at, folder_of, with_entry, with_handle, with_new_file}
use Rattle.inc_names.specs.declared.session.SessionName.{SessionName}
use Rattle.inc_names.specs.Entries.{lock_text}
use Rattle.inc_proto.specs.Views.{own, opening, mode, dir, Dir, HasTried, dir_after}
use Rattle.inc_laws.specs.Readings.{draws, latest_name, running, site_of, runs_of, jobs_of, names_of, opens_of, modes_of, owns_of, dirs_of, sites_of, makers_of}
use Rattle.inc_proto.specs.declared.own.OwnLock.TheVariants.{Unlocked}
use Rattle.inc_proto.specs.Views.Opening.{Made}
use Rattle.inc_proto.specs.Views.Dir.{Unmade, Stands, Removed, Published}
use Rattle.inc_proto.specs.Events.{own_steps, job_of}
use Rattle.inc_laws.specs.Readings.Maker.{AsLock}
use Rattle.inc_proto.specs.declared.event.Event.{Event}
use Rattle.inc_proto.specs.declared.event.Event.TheVariants.{Did}
use Rattle.inc_proto.specs.Files.{Files}
use Rattle.inc_laws.specs.Laws.{Laws}
use Rattle.inc_laws.specs.Parts.{HandlesAgree, FilesCounted}
use Rattle.inc_fs.specs.Readings.{bytes_of, locks_of, folders_put, locks_put, new_file, new_handle}
use Rattle.inc_fs.specs.Points.{with_at, here, put_at, put_same}
use Rattle.inc_laws.proofs.Readings.{at_step, no_step}
use Rattle.inc_laws.proofs.Own.{Owners}
use Rattle.inc_laws.proofs.Next.{Next, assembled, numbers_did, tried_stays, runs_job, looked_stay}
use Rattle.inc_laws.proofs.Drawn.{lost_own_dir}
use Rattle.inc_laws.proofs.Leaves.{opened_handles, unseen}
use Rattle.inc_laws.proofs.NewFile.{counted_next, fresh_maker, file_handles, file_file_names, file_sole, file_wholes, file_own_dir, made_lock_files, made_lock_settled, made_own_locks}

module _ (files : Files) (H : List Event) (F : State) (l : Laws files H F) (who : ℕ) (job : Job) (runs : running who H ≡ Some job)
    (n : SessionName) (h : ℕ) (called : latest_name (own_steps who H) ≡ Some n) (untried : ¬ HasTried (MakeLock job.krate (lock_text n)) (own_steps who H)) (none : entry_at F job.krate (lock_text n) ≡ None) (fresh : ¬ IsIn F.given h) where
  abbrev op : Op
  op = MakeLock job.krate (lock_text n)

  abbrev reply : Reply
  reply = GotHandle h

  abbrev G : State
  G = with_handle (with_entry (with_new_file F) job.krate (lock_text n) (LockFile (length F.files))) who h (length F.files)

  begun : job_of who H ≡ Some job
  begun = runs_job H who job runs

  o : Owners (jobs_of H) (names_of H) (sites_of H) F.drawn
  o = record { own = l.own_names; once = l.names_once }

  stays : (k e : Text) (w : ℕ) → HasTried (MakeLock k e) (own_steps w H) → HasTried (MakeLock k e) (own_steps w (Did who op reply ∷ H))
  stays k e w = tried_stays H who op reply (MakeLock k e) w

  still : (d : Dir) → dir_after (op, reply) d ≡ d
  still Unmade = refl
  still (Stands krate entry known) = refl
  still Removed = refl
  still (Published krate entry known) = refl

  -- the number of the new file
  counted : FilesCounted (makers_of H) (length F.files) F.files
  counted = record { is = refl; below = λ f m is. subst (λ n. f < n) (sym l.counted.is) (l.counted.below f m is) }

  nomaker : makers_of H (length F.files) ≡ None
  nomaker = fresh_maker (makers_of H) (length F.files) F.files counted

  now : HasTried (MakeLock job.krate (lock_text n)) (own_steps who (Did who op reply ∷ H))
  now = subst (HasTried (MakeLock job.krate (lock_text n))) (sym ((λ i. at_step (λ s. s) who op reply H i who) ∙ here (λ w. own_steps w H) who ((op, reply) ∷ own_steps who H))) (inl refl)

  files_handles : HandlesAgree (runs_of H) (opens_of H) (modes_of H) (with_at (makers_of H) (length F.files) (Some (AsLock job.krate (lock_text n)))) (opened_at F) (with_at (locks_of F) (length F.files) (Some Free)) F.given
  files_handles = file_handles (makers_of H) (length F.files) (AsLock job.krate (lock_text n)) nomaker l.handles

  made : with_at (makers_of H) (length F.files) (Some (AsLock job.krate (lock_text n))) (length F.files) ≡ Some (AsLock job.krate (lock_text n))
  made = here (makers_of H) (length F.files) (Some (AsLock job.krate (lock_text n)))

  abbrev next : Next (Did who op reply ∷ H) G
  next = record {
    names = names_of H;
    sites = sites_of H;
    dirs = dirs_of H;
    owns = with_at (owns_of H) who (Unlocked h);
    opens = with_at (opens_of H) who (with_at (opens_of H who) h (Some (Made job.krate (lock_text n))));
    modes = modes_of H;
    makers = with_at (makers_of H) (length F.files) (Some (AsLock job.krate (lock_text n)));
    folders = folder_at F;
    lock_files = put_at (lock_at F) job.krate (lock_text n) (Some (length F.files));
    bytes = with_at (bytes_of F) (length F.files) (Some []);
    locks = with_at (locks_of F) (length F.files) (Some Free);
    handles = with_at (opened_at F) h (Some (record { owner = who; file = length F.files }));
    names_are = sym (no_step draws who op reply H refl);
    sites_are = sym (no_step (λ s. site_of (dir s)) who op reply H (ap site_of (still (dir (own_steps who H)))));
    dirs_are = sym (no_step dir who op reply H (still (dir (own_steps who H))));
    owns_are = sym (at_step own who op reply H);
    opens_are = sym (at_step (λ s g. opening g s) who op reply H);
    modes_are = sym (no_step (λ s h. mode h s) who op reply H refl);
    makers_are = (λ i. with_at (makers_of H) (l.counted.is i) (Some (AsLock job.krate (lock_text n))));
    folders_are = sym (folders_put (with_new_file F) job.krate (lock_text n) (LockFile (length F.files)) ∙ put_same (folder_at F) job.krate (lock_text n) None (ap folder_of none));
    lock_files_are = sym (locks_put (with_new_file F) job.krate (lock_text n) (LockFile (length F.files)));
    bytes_are = new_file (λ f. f.bytes) F;
    locks_are = new_file (λ f. f.lock) F;
    handles_are = new_handle (with_entry (with_new_file F) job.krate (lock_text n) (LockFile (length F.files))) h who (length F.files);
  }

  pub make_lock_keeps : Laws files (Did who op reply ∷ H) G
  make_lock_keeps = assembled files (Did who op reply ∷ H) G next
      (numbers_did H who op reply job l.numbers runs)
      (l.names_once)
      (l.own_names)
      (subst (λ c. FilesCounted (with_at (makers_of H) (length F.files) (Some (AsLock job.krate (lock_text n)))) (c + 1) G.files) l.counted.is (counted_next (makers_of H) (length F.files) F.files (AsLock job.krate (lock_text n)) (record { bytes = []; lock = Free }) counted))
      (made_lock_files l.names_once (λ w. own_steps w H) (λ w. own_steps w (Did who op reply ∷ H)) (makers_of H) (length F.files) nomaker (lock_at F) who job.krate n called untried now stays l.lock_files)
      (opened_handles files_handles who h (length F.files) job (Made job.krate (lock_text n)) runs fresh made)
      (made_own_locks l.names_once (λ w. own_steps w H) (λ w. own_steps w (Did who op reply ∷ H)) (makers_of H) (length F.files) nomaker (lock_at F) who job.krate n called untried now stays job h runs refl (unseen files_handles who h (length F.files) job (Made job.krate (lock_text n)) runs fresh made) l.own_locks)
      (made_lock_settled l.names_once (λ w. own_steps w H) (λ w. own_steps w (Did who op reply ∷ H)) (makers_of H) (length F.files) nomaker (lock_at F) who job.krate n called untried now stays job h o begun refl l.settled)
      (lost_own_dir files (runs_of H) (jobs_of H) (owns_of H) (sites_of H) (dirs_of H) (with_at (makers_of H) (length F.files) (Some (AsLock job.krate (lock_text n)))) (folder_at F) (with_at (bytes_of F) (length F.files) (Some [])) who (Unlocked h) (λ g e. cc) (file_own_dir (makers_of H) (length F.files) (AsLock job.krate (lock_text n)) nomaker files (jobs_of H) (sites_of H) (folder_at F) (bytes_of F) (runs_of H) (owns_of H) (dirs_of H) l.own_dir))
      (l.dirs)
      (file_file_names (makers_of H) (length F.files) (AsLock job.krate (lock_text n)) nomaker l.file_names)
      (file_sole (makers_of H) (length F.files) (AsLock job.krate (lock_text n)) nomaker l.file_names l.sole_names)
      (file_wholes (makers_of H) (length F.files) (AsLock job.krate (lock_text n)) nomaker files (jobs_of H) (sites_of H) (folder_at F) (bytes_of F) l.file_names l.wholes)
      (l.newest)
      (looked_stay files H F who op reply l (λ k e saw. saw))
