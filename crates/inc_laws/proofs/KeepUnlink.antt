-- A name taken away in the own directory, from the table to the laws.
use Rattle.std.proofs.Common.{◌≡◌, ℕ, List, ◌∷◌, refl, ap, sym, ◌∙◌, None, Some, if◌then◌else◌}
use Rattle.std.specs.BTreeMap.{is_at}
use Rattle.inc_base.specs.declared.job.Job.{Job}
use Rattle.inc_fs.specs.declared.state.Entry.TheVariants.{Folder}
use Rattle.inc_fs.specs.declared.op.Op.{Op}
use Rattle.inc_fs.specs.declared.op.Op.TheVariants.{Unlink}
use Rattle.inc_fs.specs.declared.op.Reply.{Reply}
use Rattle.inc_fs.specs.declared.op.Reply.TheVariants.{Done}
use Rattle.inc_fs.specs.State.{State, Text, text_cmp, opened_at, folder_at, lock_at, entry_at, with_entry, remove_entry}
use Rattle.inc_names.specs.declared.session.SessionName.{SessionName}
use Rattle.inc_names.specs.Entries.{working_text}
use Rattle.inc_proto.specs.Views.{own, opening, mode, dir, dir_after}
use Rattle.inc_laws.specs.Readings.{draws, latest_name, running, site_of, runs_of, jobs_of, names_of, opens_of, modes_of, owns_of, dirs_of, sites_of, makers_of}
use Rattle.inc_proto.specs.declared.own.Known.{Known}
use Rattle.inc_proto.specs.Views.Dir.{Stands}
use Rattle.inc_proto.specs.Events.{own_steps}
use Rattle.inc_proto.specs.declared.event.Event.{Event}
use Rattle.inc_proto.specs.declared.event.Event.TheVariants.{Did}
use Rattle.inc_proto.specs.Files.{Files}
use Rattle.inc_laws.specs.Laws.{Laws}
use Rattle.inc_fs.specs.Readings.{bytes_of, locks_of, folders_put, locks_put, no_lock}
use Rattle.inc_fs.specs.Points.{with_at, put_at, put_same}
use Rattle.inc_laws.proofs.Readings.{at_step, no_step}
use Rattle.inc_laws.proofs.Own.{Owners}
use Rattle.inc_laws.proofs.Next.{Next, assembled, numbers_did, lock_files_stay, settled_stay, looked_stay}
use Rattle.inc_laws.proofs.Unlinks.{unlinked_file_names, unlinked_dirs, unlinked_newest, unlinked_sole, unlinked_wholes, unlinked_own_dir}
use Rattle.inc_laws.proofs.Here.{here_itself}

module _ (files : Files) (H : List Event) (F : State) (l : Laws files H F) (who : ℕ) (job : Job) (runs : running who H ≡ Some job)
    (n : SessionName) (known : List (Text × Known)) (folder : List (Text × ℕ)) (file : Text) (called : latest_name (own_steps who H) ≡ Some n) (d : dir (own_steps who H) ≡ Stands job.krate (working_text n) known) (stands : folder_at F job.krate (working_text n) ≡ Some folder) where
  abbrev op : Op
  op = Unlink job.krate (working_text n) file

  abbrev reply : Reply
  reply = Done

  abbrev G : State
  G = with_entry F job.krate (working_text n) (Folder (remove_entry (is_at (text_cmp file)) folder))

  o : Owners (jobs_of H) (names_of H) (sites_of H) F.drawn
  o = record { own = l.own_names; once = l.names_once }

  now : dir ((op, reply) ∷ own_steps who H) ≡ Stands job.krate (working_text n) (remove_entry (is_at (text_cmp file)) known)
  now = ap (dir_after (op, reply)) d ∙ ap (λ b. if b then Stands job.krate (working_text n) (remove_entry (is_at (text_cmp file)) known) else Stands job.krate (working_text n) known) (here_itself job.krate (working_text n))

  abbrev next : Next (Did who op reply ∷ H) G
  next = record {
    names = names_of H;
    sites = sites_of H;
    dirs = with_at (dirs_of H) who (Stands job.krate (working_text n) (remove_entry (is_at (text_cmp file)) known));
    owns = owns_of H;
    opens = opens_of H;
    modes = modes_of H;
    makers = makers_of H;
    folders = put_at (folder_at F) job.krate (working_text n) (Some (remove_entry (is_at (text_cmp file)) folder));
    lock_files = lock_at F;
    bytes = bytes_of F;
    locks = locks_of F;
    handles = opened_at F;
    names_are = sym (no_step draws who op reply H refl);
    sites_are = sym (no_step (λ s. site_of (dir s)) who op reply H (ap site_of now ∙ sym (ap site_of d)));
    dirs_are = (λ i. with_at (dirs_of H) who (sym now i)) ∙ sym (at_step dir who op reply H);
    owns_are = sym (no_step own who op reply H refl);
    opens_are = sym (no_step (λ s h. opening h s) who op reply H refl);
    modes_are = sym (no_step (λ s h. mode h s) who op reply H refl);
    makers_are = refl;
    folders_are = sym (folders_put F job.krate (working_text n) (Folder (remove_entry (is_at (text_cmp file)) folder)));
    lock_files_are = sym (locks_put F job.krate (working_text n) (Folder (remove_entry (is_at (text_cmp file)) folder)) ∙ put_same (lock_at F) job.krate (working_text n) None (no_lock (entry_at F job.krate (working_text n)) folder stands));
    bytes_are = refl;
    locks_are = refl;
    handles_are = refl;
  }

  pub unlink_keeps : Laws files (Did who op reply ∷ H) G
  unlink_keeps = assembled files (Did who op reply ∷ H) G next
      (numbers_did H who op reply job l.numbers runs)
      (l.names_once)
      (l.own_names)
      (l.counted)
      (lock_files_stay files H F who op reply l)
      (l.handles)
      (l.own_locks)
      (settled_stay files H F who op reply l)
      (unlinked_own_dir files (runs_of H) (jobs_of H) (owns_of H) (dirs_of H) (makers_of H) (bytes_of F) (folder_at F) o (λ v. refl) who job.krate n known folder file called d stands l.own_dir)
      (unlinked_dirs (folder_at F) (sites_of H) (makers_of H) job.krate n folder file stands l.dirs)
      (unlinked_file_names (folder_at F) (sites_of H) (makers_of H) job.krate n folder file stands l.file_names)
      (unlinked_sole (folder_at F) (sites_of H) (makers_of H) job.krate n folder file stands l.sole_names)
      (unlinked_wholes (folder_at F) (sites_of H) (makers_of H) job.krate n folder file stands l.wholes)
      (unlinked_newest (folder_at F) (sites_of H) (makers_of H) job.krate n folder file stands l.newest)
      (looked_stay files H F who op reply l (λ k e saw. saw))
