-- A lock file unlinked, from the table to the laws.
use Rattle.std.proofs.Common.{◌≡◌, ℕ, List, ◌∷◌, refl, ap, sym, ◌∙◌, None, Some}
use Rattle.inc_base.specs.declared.job.Job.{Job}
use Rattle.inc_fs.specs.declared.op.Op.{Op}
use Rattle.inc_fs.specs.declared.op.Op.TheVariants.{MakeLock, UnlinkLock}
use Rattle.inc_fs.specs.declared.op.Reply.{Reply}
use Rattle.inc_fs.specs.declared.op.Reply.TheVariants.{Done}
use Rattle.inc_fs.specs.State.{State, Text, opened_at, folder_at, lock_at, entry_at, without_entry}
use Rattle.inc_proto.specs.Views.{own, opening, mode, dir, Dir, HasTried, dir_after}
use Rattle.inc_laws.specs.Readings.{draws, running, site_of, names_of, opens_of, modes_of, owns_of, dirs_of, sites_of, makers_of}
use Rattle.inc_proto.specs.Views.Dir.{Unmade, Stands, Removed, Published}
use Rattle.inc_proto.specs.Events.{own_steps}
use Rattle.inc_proto.specs.declared.event.Event.{Event}
use Rattle.inc_proto.specs.declared.event.Event.TheVariants.{Did}
use Rattle.inc_proto.specs.Files.{Files}
use Rattle.inc_laws.specs.Laws.{Laws}
use Rattle.inc_fs.specs.Readings.{bytes_of, locks_of, folders_cut, locks_cut, no_folder}
use Rattle.inc_fs.specs.Points.{put_at, put_same}
use Rattle.inc_laws.proofs.Readings.{no_step}
use Rattle.inc_laws.proofs.Next.{Next, assembled, numbers_did, tried_stays, settled_stay, looked_stay}
use Rattle.inc_laws.proofs.Drawn.{unlinked_lock_files}

module _ (files : Files) (H : List Event) (F : State) (l : Laws files H F) (who : ℕ) (job : Job) (runs : running who H ≡ Some job)
    (krate entry : Text) (number : ℕ) (found : lock_at F krate entry ≡ Some number) where
  abbrev op : Op
  op = UnlinkLock krate entry

  abbrev reply : Reply
  reply = Done

  abbrev G : State
  G = without_entry F krate entry

  stays : (k e : Text) (w : ℕ) → HasTried (MakeLock k e) (own_steps w H) → HasTried (MakeLock k e) (own_steps w (Did who op reply ∷ H))
  stays k e w = tried_stays H who op reply (MakeLock k e) w

  still : (d : Dir) → dir_after (op, reply) d ≡ d
  still Unmade = refl
  still (Stands krate entry known) = refl
  still Removed = refl
  still (Published krate entry known) = refl

  abbrev next : Next (Did who op reply ∷ H) G
  next = record {
    names = names_of H;
    sites = sites_of H;
    dirs = dirs_of H;
    owns = owns_of H;
    opens = opens_of H;
    modes = modes_of H;
    makers = makers_of H;
    folders = folder_at F;
    lock_files = put_at (lock_at F) krate entry None;
    bytes = bytes_of F;
    locks = locks_of F;
    handles = opened_at F;
    names_are = sym (no_step draws who op reply H refl);
    sites_are = sym (no_step (λ s. site_of (dir s)) who op reply H (ap site_of (still (dir (own_steps who H)))));
    dirs_are = sym (no_step dir who op reply H (still (dir (own_steps who H))));
    owns_are = sym (no_step own who op reply H refl);
    opens_are = sym (no_step (λ s h. opening h s) who op reply H refl);
    modes_are = sym (no_step (λ s h. mode h s) who op reply H refl);
    makers_are = refl;
    folders_are = sym (folders_cut F krate entry ∙ put_same (folder_at F) krate entry None (no_folder (entry_at F krate entry) number found));
    lock_files_are = sym (locks_cut F krate entry);
    bytes_are = refl;
    locks_are = refl;
    handles_are = refl;
  }

  pub unlink_lock_keeps : Laws files (Did who op reply ∷ H) G
  unlink_lock_keeps = assembled files (Did who op reply ∷ H) G next
      (numbers_did H who op reply job l.numbers runs)
      (l.names_once)
      (l.own_names)
      (l.counted)
      (unlinked_lock_files (λ w. own_steps w (Did who op reply ∷ H)) krate entry stays l.lock_files)
      (l.handles)
      (l.own_locks)
      (settled_stay files H F who op reply l)
      (l.own_dir)
      (l.dirs)
      (l.file_names)
      (l.sole_names)
      (l.wholes)
      (l.newest)
      (looked_stay files H F who op reply l (λ k e saw. saw))
