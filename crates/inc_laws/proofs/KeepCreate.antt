-- A file created, from the table to the laws.
use Rattle.std.proofs.Common.{◌≡◌, ℕ, ◌+◌, List, [], ◌∷◌, length, refl, ap, sym, ◌∙◌, subst, None, Some, ◌<◌}
use Rattle.std.specs.BTreeMap.{insert_entry}
use Rattle.inc_base.specs.declared.job.Job.{Job}
use Rattle.inc_fs.specs.declared.state.Lock.TheVariants.{Free}
use Rattle.inc_fs.specs.declared.state.Entry.TheVariants.{Folder}
use Rattle.inc_fs.specs.declared.op.Op.{Op}
use Rattle.inc_fs.specs.declared.op.Op.TheVariants.{MakeLock, Create}
use Rattle.inc_fs.specs.declared.op.Reply.{Reply}
use Rattle.inc_fs.specs.declared.op.Reply.TheVariants.{Done}
use Rattle.inc_fs.specs.State.{State, Text, text_cmp, opened_at, folder_at, lock_at, entry_at, with_entry, with_new_file}
use Rattle.inc_names.specs.declared.session.SessionName.{SessionName}
use Rattle.inc_names.specs.Entries.{working_text}
use Rattle.inc_proto.specs.Views.{own, opening, mode, dir, HasTried, dir_after}
use Rattle.inc_laws.specs.Readings.{draws, latest_name, running, site_of, runs_of, jobs_of, names_of, opens_of, modes_of, owns_of, dirs_of, sites_of, makers_of}
use Rattle.inc_proto.specs.declared.own.Known.{Known}
use Rattle.inc_proto.specs.Views.Dir.{Stands}
use Rattle.inc_proto.specs.Events.{own_steps}
use Rattle.inc_laws.specs.Readings.Maker.{ByCreate}
use Rattle.inc_proto.specs.declared.event.Event.{Event}
use Rattle.inc_proto.specs.declared.event.Event.TheVariants.{Did}
use Rattle.inc_proto.specs.Files.{Files}
use Rattle.inc_laws.specs.Laws.{Laws}
use Rattle.inc_laws.specs.Parts.{FilesCounted}
use Rattle.inc_fs.specs.Readings.{bytes_of, locks_of, folders_put, locks_put, new_file, no_lock}
use Rattle.inc_fs.specs.Points.{with_at, put_at, put_same}
use Rattle.inc_laws.proofs.Readings.{at_step, no_step}
use Rattle.inc_laws.proofs.Own.{Owners, dirs_fewer, fewer_put}
use Rattle.inc_laws.proofs.Mono.{same_grows}
use Rattle.inc_laws.proofs.Next.{Next, assembled, numbers_did, tried_stays, settled_stay, looked_stay}
use Rattle.inc_laws.proofs.NewFile.{counted_next, fresh_maker, file_handles, created_lock_files}
use Rattle.inc_laws.proofs.InPlace.{created_own_dir, created_file_names, created_sole, created_wholes, newest_put}

module _ (files : Files) (H : List Event) (F : State) (l : Laws files H F) (who : ℕ) (job : Job) (runs : running who H ≡ Some job)
    (n : SessionName) (known : List (Text × Known)) (folder : List (Text × ℕ)) (file : Text) (called : latest_name (own_steps who H) ≡ Some n) (d : dir (own_steps who H) ≡ Stands job.krate (working_text n) known) (stands : folder_at F job.krate (working_text n) ≡ Some folder) where
  abbrev op : Op
  op = Create job.krate (working_text n) file

  abbrev reply : Reply
  reply = Done

  abbrev G : State
  G = with_entry (with_new_file F) job.krate (working_text n) (Folder (insert_entry text_cmp folder file (length F.files)))

  o : Owners (jobs_of H) (names_of H) (sites_of H) F.drawn
  o = record { own = l.own_names; once = l.names_once }

  stays : (k e : Text) (w : ℕ) → HasTried (MakeLock k e) (own_steps w H) → HasTried (MakeLock k e) (own_steps w (Did who op reply ∷ H))
  stays k e w = tried_stays H who op reply (MakeLock k e) w

  -- the number of the new file
  counted : FilesCounted (makers_of H) (length F.files) F.files
  counted = record { is = refl; below = λ f m is. subst (λ n. f < n) (sym l.counted.is) (l.counted.below f m is) }

  nomaker : makers_of H (length F.files) ≡ None
  nomaker = fresh_maker (makers_of H) (length F.files) F.files counted

  now : dir ((op, reply) ∷ own_steps who H) ≡ Stands job.krate (working_text n) (insert_entry text_cmp known file (record { linked = None; bytes = Some [] }))
  now = ap (dir_after (op, reply)) d

  abbrev next : Next (Did who op reply ∷ H) G
  next = record {
    names = names_of H;
    sites = sites_of H;
    dirs = with_at (dirs_of H) who (Stands job.krate (working_text n) (insert_entry text_cmp known file (record { linked = None; bytes = Some [] })));
    owns = owns_of H;
    opens = opens_of H;
    modes = modes_of H;
    makers = with_at (makers_of H) (length F.files) (Some (ByCreate who));
    folders = put_at (folder_at F) job.krate (working_text n) (Some (insert_entry text_cmp folder file (length F.files)));
    lock_files = lock_at F;
    bytes = with_at (bytes_of F) (length F.files) (Some []);
    locks = with_at (locks_of F) (length F.files) (Some Free);
    handles = opened_at F;
    names_are = sym (no_step draws who op reply H refl);
    sites_are = sym (no_step (λ s. site_of (dir s)) who op reply H (ap site_of now ∙ sym (ap site_of d)));
    dirs_are = (λ i. with_at (dirs_of H) who (sym now i)) ∙ sym (at_step dir who op reply H);
    owns_are = sym (no_step own who op reply H refl);
    opens_are = sym (no_step (λ s h. opening h s) who op reply H refl);
    modes_are = sym (no_step (λ s h. mode h s) who op reply H refl);
    makers_are = (λ i. with_at (makers_of H) (l.counted.is i) (Some (ByCreate who)));
    folders_are = sym (folders_put (with_new_file F) job.krate (working_text n) (Folder (insert_entry text_cmp folder file (length F.files))));
    lock_files_are = sym (locks_put (with_new_file F) job.krate (working_text n) (Folder (insert_entry text_cmp folder file (length F.files))) ∙ put_same (lock_at F) job.krate (working_text n) None (no_lock (entry_at F job.krate (working_text n)) folder stands));
    bytes_are = new_file (λ f. f.bytes) F;
    locks_are = new_file (λ f. f.lock) F;
    handles_are = refl;
  }

  pub create_keeps : Laws files (Did who op reply ∷ H) G
  create_keeps = assembled files (Did who op reply ∷ H) G next
      (numbers_did H who op reply job l.numbers runs)
      (l.names_once)
      (l.own_names)
      (subst (λ c. FilesCounted (with_at (makers_of H) (length F.files) (Some (ByCreate who))) (c + 1) G.files) l.counted.is (counted_next (makers_of H) (length F.files) F.files (ByCreate who) (record { bytes = []; lock = Free }) counted))
      (created_lock_files who (makers_of H) (length F.files) nomaker (λ w. own_steps w H) (λ w. own_steps w (Did who op reply ∷ H)) stays l.lock_files)
      (file_handles (makers_of H) (length F.files) (ByCreate who) nomaker l.handles)
      (l.own_locks)
      (settled_stay files H F who op reply l)
      (created_own_dir files (runs_of H) (jobs_of H) (owns_of H) (dirs_of H) (makers_of H) (bytes_of F) (folder_at F) o (λ v. refl) who job n known folder file (length F.files) called d stands nomaker l.own_dir)
      (dirs_fewer (fewer_put (folder_at F) job.krate (working_text n) folder (insert_entry text_cmp folder file (length F.files)) stands) l.dirs)
      (created_file_names files (runs_of H) (jobs_of H) (owns_of H) (dirs_of H) (makers_of H) (bytes_of F) (folder_at F) o (λ v. refl) who job n known folder file (length F.files) called d stands nomaker l.file_names)
      (created_sole files (runs_of H) (jobs_of H) (owns_of H) (dirs_of H) (makers_of H) (bytes_of F) (folder_at F) o (λ v. refl) who job n known folder file (length F.files) called d stands nomaker l.file_names l.sole_names)
      (created_wholes files (runs_of H) (jobs_of H) (owns_of H) (dirs_of H) (makers_of H) (bytes_of F) (folder_at F) o (λ v. refl) who job n known folder file (length F.files) called d stands nomaker l.file_names l.wholes)
      (newest_put (folder_at F) job.krate (working_text n) (insert_entry text_cmp folder file (length F.files)) (same_grows (makers_of H)) l.newest)
      (looked_stay files H F who op reply l (λ k e saw. saw))
