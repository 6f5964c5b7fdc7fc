-- A rename back, from the table to the laws.
use Rattle.std.proofs.Common.{◌≡◌, ℕ, List, ◌∷◌, refl, ap, sym, ◌∙◌, None, Some, if◌then◌else◌}
use Rattle.inc_base.specs.declared.job.Job.{Job}
use Rattle.inc_fs.specs.declared.state.Entry.TheVariants.{Folder}
use Rattle.inc_fs.specs.declared.op.Op.{Op}
use Rattle.inc_fs.specs.declared.op.Op.TheVariants.{Rename}
use Rattle.inc_fs.specs.declared.op.Reply.{Reply}
use Rattle.inc_fs.specs.declared.op.Reply.TheVariants.{Done}
use Rattle.inc_fs.specs.State.{State, Text, opened_at, folder_at, lock_at, entry_at, lock_of, with_entry, without_entry}
use Rattle.inc_names.specs.declared.session.SessionName.{SessionName}
use Rattle.inc_names.specs.Entries.{working_text, final_text, IsNewer}
use Rattle.inc_proto.specs.Views.{own, opening, mode, dir, Dir, dir_after}
use Rattle.inc_laws.specs.Readings.{draws, running, site_of, runs_of, jobs_of, names_of, opens_of, modes_of, owns_of, dirs_of, sites_of, makers_of}
use Rattle.inc_proto.specs.Views.Dir.{Unmade, Stands, Removed, Published}
use Rattle.inc_proto.specs.Events.{own_steps}
use Rattle.inc_proto.specs.declared.event.Event.{Event}
use Rattle.inc_proto.specs.declared.event.Event.TheVariants.{Did}
use Rattle.inc_proto.specs.Files.{Files}
use Rattle.inc_laws.specs.Laws.{Laws}
use Rattle.inc_fs.specs.Readings.{bytes_of, locks_of, folders_put, folders_cut, locks_put, locks_cut, no_lock}
use Rattle.inc_laws.specs.Readings.Site.{Out}
use Rattle.inc_fs.specs.Points.{put_at, put_same}
use Rattle.inc_laws.proofs.Readings.{no_step}
use Rattle.inc_laws.proofs.Own.{Owners, at_name, at_same}
use Rattle.inc_laws.proofs.Next.{Next, assembled, numbers_did, lock_files_stay, settled_stay, looked_stay}
use Rattle.inc_laws.proofs.Made2.{back_own_dir, back_sole}
use Rattle.inc_laws.proofs.Texts.{final_no_working}
use Rattle.inc_laws.proofs.Backs.{back_dirs, back_file_names, back_wholes, back_newest}
use Rattle.inc_laws.proofs.Here.{not_here}

module _ (files : Files) (H : List Event) (F : State) (l : Laws files H F) (who : ℕ) (job : Job) (runs : running who H ≡ Some job)
    (krate : Text) (n : SessionName) (hash : ℕ) (folder : List (Text × ℕ)) (stands : folder_at F krate (final_text n hash) ≡ Some folder) (free : entry_at F krate (working_text n) ≡ None) (u : ℕ) (newer : SessionName) (its : ℕ) (out : sites_of H u ≡ Out krate (final_text newer its)) (after : IsNewer newer n) where
  abbrev op : Op
  op = Rename krate (final_text n hash) (working_text n)

  abbrev reply : Reply
  reply = Done

  abbrev G : State
  G = without_entry (with_entry F krate (working_text n) (Folder folder)) krate (final_text n hash)

  o : Owners (jobs_of H) (names_of H) (sites_of H) F.drawn
  o = record { own = l.own_names; once = l.names_once }

  away : (d : Dir) → dir (own_steps who H) ≡ d → dir_after (op, reply) d ≡ d
  away Unmade is = refl
  away (Stands k e known) is =
      let its = at_name o who k e (ap site_of is) in
      ap (λ b. if b then Published krate (working_text n) known else Stands k e known) (not_here k e krate (final_text n hash) (λ same. final_no_working n its.1 hash (sym (at_same k e krate (final_text n hash) same).1 ∙ its.5)))
  away Removed is = refl
  away (Published k e known) is = refl

  abbrev next : Next (Did who op reply ∷ H) G
  next = record {
    names = names_of H;
    sites = sites_of H;
    dirs = dirs_of H;
    owns = owns_of H;
    opens = opens_of H;
    modes = modes_of H;
    makers = makers_of H;
    folders = put_at (put_at (folder_at F) krate (working_text n) (Some folder)) krate (final_text n hash) None;
    lock_files = lock_at F;
    bytes = bytes_of F;
    locks = locks_of F;
    handles = opened_at F;
    names_are = sym (no_step draws who op reply H refl);
    sites_are = sym (no_step (λ s. site_of (dir s)) who op reply H (ap site_of (away (dir (own_steps who H)) refl)));
    dirs_are = sym (no_step dir who op reply H (away (dir (own_steps who H)) refl));
    owns_are = sym (no_step own who op reply H refl);
    opens_are = sym (no_step (λ s h. opening h s) who op reply H refl);
    modes_are = sym (no_step (λ s h. mode h s) who op reply H refl);
    makers_are = refl;
    folders_are = sym (folders_cut (with_entry F krate (working_text n) (Folder folder)) krate (final_text n hash) ∙ (λ i. put_at (folders_put F krate (working_text n) (Folder folder) i) krate (final_text n hash) None));
    lock_files_are = sym (locks_cut (with_entry F krate (working_text n) (Folder folder)) krate (final_text n hash) ∙ (λ i. put_at (locks_put F krate (working_text n) (Folder folder) i) krate (final_text n hash) None) ∙ (λ i. put_at (put_same (lock_at F) krate (working_text n) None (ap lock_of free) i) krate (final_text n hash) None) ∙ put_same (lock_at F) krate (final_text n hash) None (no_lock (entry_at F krate (final_text n hash)) folder stands));
    bytes_are = refl;
    locks_are = refl;
    handles_are = refl;
  }

  pub back_keeps : Laws files (Did who op reply ∷ H) G
  back_keeps = assembled files (Did who op reply ∷ H) G next
      (numbers_did H who op reply job l.numbers runs)
      (l.names_once)
      (l.own_names)
      (l.counted)
      (lock_files_stay files H F who op reply l)
      (l.handles)
      (l.own_locks)
      (settled_stay files H F who op reply l)
      (back_own_dir o l.dirs krate n hash folder stands files (runs_of H) (owns_of H) (dirs_of H) (makers_of H) (bytes_of F) (λ v. refl) l.own_dir)
      (back_dirs o l.dirs krate n hash folder stands)
      (back_file_names o l.dirs krate n hash folder stands l.file_names)
      (back_sole o l.dirs krate n hash folder stands l.sole_names)
      (back_wholes o l.dirs krate n hash folder stands l.wholes)
      (back_newest o l.dirs krate n hash folder stands u newer its out after l.newest)
      (looked_stay files H F who op reply l (λ k e saw. saw))
