-- A directory made, from the table to the laws.
use Rattle.std.proofs.Common.{◌≡◌, ℕ, List, [], ◌∷◌, refl, ap, sym, ◌∙◌, subst, None, Some, inl}
use Rattle.inc_base.specs.declared.job.Job.{Job}
use Rattle.inc_fs.specs.declared.state.Entry.TheVariants.{Folder}
use Rattle.inc_fs.specs.declared.op.Op.{Op}
use Rattle.inc_fs.specs.declared.op.Op.TheVariants.{MakeLock, MakeDir}
use Rattle.inc_fs.specs.declared.op.Reply.{Reply}
use Rattle.inc_fs.specs.declared.op.Reply.TheVariants.{Done}
use Rattle.inc_fs.specs.State.{State, Text, IsIn, opened_at, folder_at, lock_at, entry_at, folder_of, lock_of, with_entry}
use Rattle.inc_names.specs.declared.session.SessionName.{SessionName}
use Rattle.inc_names.specs.Entries.{lock_text, working_text, final_text}
use Rattle.inc_proto.specs.Views.{own, opening, mode, dir, HasTried, dir_after}
use Rattle.inc_laws.specs.Readings.{draws, latest_name, running, site_of, runs_of, jobs_of, names_of, opens_of, modes_of, owns_of, dirs_of, sites_of, makers_of, place_of}
use Rattle.inc_proto.specs.declared.own.OwnLock.TheVariants.{Locked}
use Rattle.inc_proto.specs.Views.Opening.{Made}
use Rattle.inc_proto.specs.Views.Dir.{Unmade, Stands}
use Rattle.inc_proto.specs.Events.{own_steps, job_of}
use Rattle.inc_laws.specs.Readings.Maker.{AsLock}
use Rattle.inc_proto.specs.declared.event.Event.{Event}
use Rattle.inc_proto.specs.declared.event.Event.TheVariants.{Did}
use Rattle.inc_proto.specs.Files.{Files}
use Rattle.inc_laws.specs.Laws.{Laws}
use Rattle.inc_fs.specs.Readings.{bytes_of, locks_of, folders_put, locks_put}
use Rattle.inc_laws.specs.Readings.Site.{Nowhere, At, Out}
use Rattle.inc_fs.specs.Points.{with_at, put_at, put_same}
use Rattle.inc_laws.proofs.Readings.{at_step, no_step}
use Rattle.inc_laws.proofs.Own.{Owners, head_in}
use Rattle.inc_laws.proofs.Mono.{stay}
use Rattle.inc_laws.proofs.Next.{Next, assembled, numbers_did, tried_stays, looked_before, runs_job, lock_files_stay}
use Rattle.inc_laws.proofs.Made.{made_own_names, made_dirs, made_newest, made_file_names, made_wholes}
use Rattle.inc_laws.proofs.Made2.{made_own_dir, made_sole, made_settled}
use Rattle.inc_laws.proofs.InPlace.{some_same}
use Rattle.inc_names.specs.EntryLaws.{same_lock_text}

module _ (files : Files) (H : List Event) (F : State) (l : Laws files H F) (who : ℕ) (job : Job) (runs : running who H ≡ Some job)
    (n : SessionName) (h : ℕ) (called : latest_name (own_steps who H) ≡ Some n) (locked : own (own_steps who H) ≡ Locked h) (unmade : dir (own_steps who H) ≡ Unmade) (none : entry_at F job.krate (working_text n) ≡ None) where
  abbrev op : Op
  op = MakeDir job.krate (working_text n)

  abbrev reply : Reply
  reply = Done

  abbrev G : State
  G = with_entry F job.krate (working_text n) (Folder [])

  begun : job_of who H ≡ Some job
  begun = runs_job H who job runs

  o : Owners (jobs_of H) (names_of H) (sites_of H) F.drawn
  o = record { own = l.own_names; once = l.names_once }

  stays : (k e : Text) (w : ℕ) → HasTried (MakeLock k e) (own_steps w H) → HasTried (MakeLock k e) (own_steps w (Did who op reply ∷ H))
  stays k e w = tried_stays H who op reply (MakeLock k e) w

  nowhere : sites_of H who ≡ Nowhere
  nowhere = ap site_of unmade

  now : dir ((op, reply) ∷ own_steps who H) ≡ Stands job.krate (working_text n) []
  now = ap (dir_after (op, reply)) unmade

  -- it made its lock file
  tried : HasTried (MakeLock job.krate (lock_text n)) (own_steps who H)
  tried =
      let mine = l.own_locks.handle who h job runs (inl locked) in
      let same : mine.0 ≡ n = some_same mine.0 n (sym mine.1 ∙ called) in
      let t = l.handles.there who h job _ runs mine.2 in
      let s = l.handles.seen h t.0 t.1 in
      let by : s.0 ≡ Made job.krate (lock_text mine.0) = some_same s.0 _ (sym s.2 ∙ ap (λ w. opens_of H w h) t.2 ∙ mine.2) in
      let made : makers_of H t.0.file ≡ Some (AsLock job.krate (lock_text n)) = s.3 ∙ ap (λ b. Some (AsLock (place_of b).0 (place_of b).1)) by ∙ ap (λ m. Some (AsLock job.krate (lock_text m))) same in
      let w = l.lock_files.tried job.krate (lock_text n) t.0.file made in
      let who_is : w.0 ≡ who = l.names_once.once w.0 who n (subst (IsIn (names_of H w.0)) (same_lock_text w.1 n (sym w.3)) w.2) (head_in (names_of H who) n called) in
      subst (λ v. HasTried (MakeLock job.krate (lock_text n)) (own_steps v H)) who_is w.4

  abbrev next : Next (Did who op reply ∷ H) G
  next = record {
    names = names_of H;
    sites = with_at (sites_of H) who (At job.krate (working_text n));
    dirs = with_at (dirs_of H) who (Stands job.krate (working_text n) []);
    owns = owns_of H;
    opens = opens_of H;
    modes = modes_of H;
    makers = makers_of H;
    folders = put_at (folder_at F) job.krate (working_text n) (Some []);
    lock_files = lock_at F;
    bytes = bytes_of F;
    locks = locks_of F;
    handles = opened_at F;
    names_are = sym (no_step draws who op reply H refl);
    sites_are = (λ i. with_at (sites_of H) who (site_of (sym now i))) ∙ sym (at_step (λ s. site_of (dir s)) who op reply H);
    dirs_are = (λ i. with_at (dirs_of H) who (sym now i)) ∙ sym (at_step dir who op reply H);
    owns_are = sym (no_step own who op reply H refl);
    opens_are = sym (no_step (λ s h. opening h s) who op reply H refl);
    modes_are = sym (no_step (λ s h. mode h s) who op reply H refl);
    makers_are = refl;
    folders_are = sym (folders_put F job.krate (working_text n) (Folder []));
    lock_files_are = sym (locks_put F job.krate (working_text n) (Folder []) ∙ put_same (lock_at F) job.krate (working_text n) None (ap lock_of none));
    bytes_are = refl;
    locks_are = refl;
    handles_are = refl;
  }

  pub make_dir_keeps : Laws files (Did who op reply ∷ H) G
  make_dir_keeps = assembled files (Did who op reply ∷ H) G next
      (numbers_did H who op reply job l.numbers runs)
      (l.names_once)
      (made_own_names o l.dirs who job n nowhere begun called)
      (l.counted)
      (lock_files_stay files H F who op reply l)
      (l.handles)
      (l.own_locks)
      (made_settled (folder_at F) o who job.krate n nowhere called h locked (stays _ _ who tried) stays l.settled)
      (made_own_dir (folder_at F) o who job.krate n nowhere called files (runs_of H) (owns_of H) (dirs_of H) (makers_of H) (bytes_of F) (λ v. refl) l.own_dir)
      (made_dirs o l.dirs who job n nowhere begun called (ap folder_of none))
      (made_file_names o l.dirs who job n nowhere begun called l.file_names)
      (made_sole (folder_at F) o who job.krate n nowhere called l.sole_names)
      (made_wholes o l.dirs who job n nowhere begun called (ap folder_of none) l.wholes)
      (made_newest o l.dirs who job n nowhere begun called (ap folder_of none) l.newest)
      (λ w k m hash saw. let v = l.looked w k m hash (looked_before H who op reply k (final_text m hash) w (λ no. no) saw) in (v.0, stay (sites_of H) who (At job.krate (working_text n)) (Out k (final_text m hash)) v.0 (λ e. let x = nowhere in cc) v.1))
