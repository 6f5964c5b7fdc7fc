-- A link, from the table to the laws.
use Rattle.std.proofs.Common.{◌≡◌, ℕ, List, ◌∷◌, refl, ap, sym, ◌∙◌, None, Some}
use Rattle.std.specs.BTreeMap.{insert_entry}
use Rattle.inc_base.specs.declared.job.Job.{Job}
use Rattle.inc_fs.specs.declared.state.Entry.TheVariants.{Folder}
use Rattle.inc_fs.specs.declared.op.Op.{Op}
use Rattle.inc_fs.specs.declared.op.Op.TheVariants.{Link}
use Rattle.inc_fs.specs.declared.op.Reply.{Reply}
use Rattle.inc_fs.specs.declared.op.Reply.TheVariants.{Done}
use Rattle.inc_fs.specs.State.{State, Text, text_cmp, named, opened_at, folder_at, lock_at, entry_at, with_entry}
use Rattle.inc_names.specs.declared.session.SessionName.{SessionName}
use Rattle.inc_names.specs.Entries.{working_text, final_text}
use Rattle.inc_proto.specs.Views.{own, opening, mode, dir, dir_after}
use Rattle.inc_laws.specs.Readings.{draws, latest_name, running, site_of, runs_of, jobs_of, names_of, opens_of, modes_of, owns_of, dirs_of, sites_of, makers_of}
use Rattle.inc_proto.specs.declared.own.Known.{Known}
use Rattle.inc_proto.specs.Views.Dir.{Stands}
use Rattle.inc_proto.specs.Events.{own_steps}
use Rattle.inc_proto.specs.declared.event.Event.{Event}
use Rattle.inc_proto.specs.declared.event.Event.TheVariants.{Did}
use Rattle.inc_proto.specs.Files.{Files}
use Rattle.inc_laws.specs.Laws.{Laws}
use Rattle.inc_fs.specs.Readings.{bytes_of, locks_of, folders_put, locks_put, no_lock}
use Rattle.inc_fs.specs.Points.{with_at, put_at, put_same, put_there}
use Rattle.inc_laws.proofs.Readings.{at_step, no_step}
use Rattle.inc_laws.proofs.Own.{Owners, dirs_fewer, fewer_put}
use Rattle.inc_laws.proofs.Mono.{same_grows}
use Rattle.inc_laws.proofs.Next.{Next, assembled, numbers_did, lock_files_stay, settled_stay, looked_stay}
use Rattle.inc_laws.proofs.InPlace.{newest_put}
use Rattle.inc_laws.proofs.Texts.{final_no_working}
use Rattle.inc_laws.proofs.Links.{linked_file_names, linked_own_dir, linked_sole}

module _ (files : Files) (H : List Event) (F : State) (l : Laws files H F) (who : ℕ) (job : Job) (runs : running who H ≡ Some job)
    (n m : SessionName) (hash f : ℕ) (known : List (Text × Known)) (folder source : List (Text × ℕ)) (file : Text) (called : latest_name (own_steps who H) ≡ Some n) (d : dir (own_steps who H) ≡ Stands job.krate (working_text n) known) (stands : folder_at F job.krate (working_text n) ≡ Some folder) (from : folder_at F job.krate (final_text m hash) ≡ Some source) (has : named file source ≡ Some f) where
  abbrev op : Op
  op = Link job.krate (final_text m hash) (working_text n) file

  abbrev reply : Reply
  reply = Done

  abbrev G : State
  G = with_entry F job.krate (working_text n) (Folder (insert_entry text_cmp folder file f))

  o : Owners (jobs_of H) (names_of H) (sites_of H) F.drawn
  o = record { own = l.own_names; once = l.names_once }

  now : dir ((op, reply) ∷ own_steps who H) ≡ Stands job.krate (working_text n) (insert_entry text_cmp known file (record { linked = Some (final_text m hash); bytes = None }))
  now = ap (dir_after (op, reply)) d

  abbrev next : Next (Did who op reply ∷ H) G
  next = record {
    names = names_of H;
    sites = sites_of H;
    dirs = with_at (dirs_of H) who (Stands job.krate (working_text n) (insert_entry text_cmp known file (record { linked = Some (final_text m hash); bytes = None })));
    owns = owns_of H;
    opens = opens_of H;
    modes = modes_of H;
    makers = makers_of H;
    folders = put_at (folder_at F) job.krate (working_text n) (Some (insert_entry text_cmp folder file f));
    lock_files = lock_at F;
    bytes = bytes_of F;
    locks = locks_of F;
    handles = opened_at F;
    names_are = sym (no_step draws who op reply H refl);
    sites_are = sym (no_step (λ s. site_of (dir s)) who op reply H (ap site_of now ∙ sym (ap site_of d)));
    dirs_are = (λ i. with_at (dirs_of H) who (sym now i)) ∙ sym (at_step dir who op reply H);
    owns_are = sym (no_step own who op reply H refl);
    opens_are = sym (no_step (λ s h. opening h s) who op reply H refl);
    modes_are = sym (no_step (λ s h. mode h s) who op reply H refl);
    makers_are = refl;
    folders_are = sym (folders_put F job.krate (working_text n) (Folder (insert_entry text_cmp folder file f)));
    lock_files_are = sym (locks_put F job.krate (working_text n) (Folder (insert_entry text_cmp folder file f)) ∙ put_same (lock_at F) job.krate (working_text n) None (no_lock (entry_at F job.krate (working_text n)) folder stands));
    bytes_are = refl;
    locks_are = refl;
    handles_are = refl;
  }

  pub link_keeps : Laws files (Did who op reply ∷ H) G
  link_keeps = assembled files (Did who op reply ∷ H) G next
      (numbers_did H who op reply job l.numbers runs)
      (l.names_once)
      (l.own_names)
      (l.counted)
      (lock_files_stay files H F who op reply l)
      (l.handles)
      (l.own_locks)
      (settled_stay files H F who op reply l)
      (linked_own_dir files (runs_of H) (jobs_of H) (owns_of H) (dirs_of H) (makers_of H) (bytes_of F) (folder_at F) o (λ v. refl) l.file_names l.wholes who job.krate n known folder source file f m hash called d stands from has l.own_dir)
      (dirs_fewer (fewer_put (folder_at F) job.krate (working_text n) folder (insert_entry text_cmp folder file f) stands) l.dirs)
      (linked_file_names files (runs_of H) (jobs_of H) (owns_of H) (dirs_of H) (makers_of H) (bytes_of F) (folder_at F) o (λ v. refl) l.file_names l.wholes who job.krate n known folder source file f m hash called d stands from has)
      (linked_sole files (runs_of H) (jobs_of H) (owns_of H) (dirs_of H) (makers_of H) (bytes_of F) (folder_at F) o (λ v. refl) l.file_names l.wholes who job.krate n known folder source file f m hash called d stands from has l.sole_names)
      (λ k a b z is. l.wholes k a b z (sym (put_there (folder_at F) job.krate (working_text n) (Some (insert_entry text_cmp folder file f)) k (final_text a b) (λ e. final_no_working a n b e)) ∙ is))
      (newest_put (folder_at F) job.krate (working_text n) (insert_entry text_cmp folder file f) (same_grows (makers_of H)) l.newest)
      (looked_stay files H F who op reply l (λ k e saw. saw))
