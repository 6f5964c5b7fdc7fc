-- Another directory removed, from the table to the laws.
use Rattle.std.proofs.Common.{◌≡◌, ◌≢◌, ℕ, List, [], ◌∷◌, refl, ap, sym, ◌∙◌, None, Some, IsSome, if◌then◌else◌}
use Rattle.inc_base.specs.declared.job.Job.{Job}
use Rattle.inc_fs.specs.declared.op.Op.{Op}
use Rattle.inc_fs.specs.declared.op.Op.TheVariants.{RemoveDir}
use Rattle.inc_fs.specs.declared.op.Reply.{Reply}
use Rattle.inc_fs.specs.declared.op.Reply.TheVariants.{Done}
use Rattle.inc_fs.specs.State.{State, Text, opened_at, folder_at, lock_at, entry_at, without_entry}
use Rattle.inc_names.specs.declared.session.SessionName.{SessionName}
use Rattle.inc_names.specs.Entries.{working_text}
use Rattle.inc_proto.specs.Views.{own, opening, mode, dir, Dir, dir_after}
use Rattle.inc_laws.specs.Readings.{draws, running, site_of, runs_of, jobs_of, names_of, opens_of, modes_of, owns_of, dirs_of, sites_of, makers_of}
use Rattle.inc_proto.specs.declared.own.OwnLock.TheVariants.{Locked}
use Rattle.inc_proto.specs.Views.Dir.{Unmade, Stands, Removed, Published}
use Rattle.inc_proto.specs.Events.{own_steps}
use Rattle.inc_proto.specs.declared.event.Event.{Event}
use Rattle.inc_proto.specs.declared.event.Event.TheVariants.{Did}
use Rattle.inc_proto.specs.Files.{Files}
use Rattle.inc_laws.specs.Laws.{Laws}
use Rattle.inc_fs.specs.Readings.{bytes_of, locks_of, folders_cut, locks_cut, no_lock}
use Rattle.inc_laws.specs.Readings.Site.{At}
use Rattle.inc_fs.specs.Points.{put_at, put_same}
use Rattle.inc_laws.proofs.Readings.{no_step}
use Rattle.inc_laws.proofs.Next.{Next, assembled, numbers_did, lock_files_stay, settled_stay, looked_stay}
use Rattle.inc_laws.proofs.Here.{not_here}
use Rattle.inc_laws.proofs.Removes.{removed_dirs, removed_file_names, removed_sole, removed_wholes, removed_newest, removed_own_dir}

module _ (files : Files) (H : List Event) (F : State) (l : Laws files H F) (who : ℕ) (job : Job) (runs : running who H ≡ Some job)
    (krate : Text) (n : SessionName) (stands : folder_at F krate (working_text n) ≡ Some []) (away : sites_of H who ≢ At krate (working_text n)) (none : (v g : ℕ) → IsSome (runs_of H v) → owns_of H v ≡ Locked g → sites_of H v ≢ At krate (working_text n)) where
  abbrev op : Op
  op = RemoveDir krate (working_text n)

  abbrev reply : Reply
  reply = Done

  abbrev G : State
  G = without_entry F krate (working_text n)

  off : (d : Dir) → dir (own_steps who H) ≡ d → dir_after (op, reply) d ≡ d
  off Unmade is = refl
  off (Stands k e known) is = ap (λ b. if b then Removed else Stands k e known) (not_here k e krate (working_text n) (λ same. away (ap site_of is ∙ same)))
  off Removed is = refl
  off (Published k e known) is = refl

  abbrev next : Next (Did who op reply ∷ H) G
  next = record {
    names = names_of H;
    sites = sites_of H;
    dirs = dirs_of H;
    owns = owns_of H;
    opens = opens_of H;
    modes = modes_of H;
    makers = makers_of H;
    folders = put_at (folder_at F) krate (working_text n) None;
    lock_files = lock_at F;
    bytes = bytes_of F;
    locks = locks_of F;
    handles = opened_at F;
    names_are = sym (no_step draws who op reply H refl);
    sites_are = sym (no_step (λ s. site_of (dir s)) who op reply H (ap site_of (off (dir (own_steps who H)) refl)));
    dirs_are = sym (no_step dir who op reply H (off (dir (own_steps who H)) refl));
    owns_are = sym (no_step own who op reply H refl);
    opens_are = sym (no_step (λ s h. opening h s) who op reply H refl);
    modes_are = sym (no_step (λ s h. mode h s) who op reply H refl);
    makers_are = refl;
    folders_are = sym (folders_cut F krate (working_text n));
    lock_files_are = sym (locks_cut F krate (working_text n) ∙ put_same (lock_at F) krate (working_text n) None (no_lock (entry_at F krate (working_text n)) [] stands));
    bytes_are = refl;
    locks_are = refl;
    handles_are = refl;
  }

  pub remove_other_keeps : Laws files (Did who op reply ∷ H) G
  remove_other_keeps = assembled files (Did who op reply ∷ H) G next
      (numbers_did H who op reply job l.numbers runs)
      (l.names_once)
      (l.own_names)
      (l.counted)
      (lock_files_stay files H F who op reply l)
      (l.handles)
      (l.own_locks)
      (settled_stay files H F who op reply l)
      (removed_own_dir (folder_at F) krate n (λ v k e is off. is) (λ v k e is. is) (λ v k e is. is) (λ v k e is. is) files (runs_of H) (jobs_of H) (owns_of H) (dirs_of H) (dirs_of H) (makers_of H) (bytes_of F) (λ v h k e shown r locked d. (d, λ same. none v h r locked (ap site_of d ∙ same))) l.own_dir)
      (removed_dirs (folder_at F) krate n (λ v k e is off. is) (λ v k e is. is) (λ v k e is. is) (λ v k e is. is) l.dirs)
      (removed_file_names (folder_at F) krate n (λ v k e is off. is) (λ v k e is. is) (λ v k e is. is) (λ v k e is. is) l.file_names)
      (removed_sole (folder_at F) krate n (λ v k e is off. is) (λ v k e is. is) (λ v k e is. is) (λ v k e is. is) l.sole_names)
      (removed_wholes (folder_at F) krate n (λ v k e is off. is) (λ v k e is. is) (λ v k e is. is) (λ v k e is. is) l.wholes)
      (removed_newest (folder_at F) krate n (λ v k e is off. is) (λ v k e is. is) (λ v k e is. is) (λ v k e is. is) l.newest)
      (looked_stay files H F who op reply l (λ k e saw. saw))
