-- A lock file opened, from the table to the laws.
use Rattle.std.proofs.Common.{◌≡◌, ℕ, List, ◌∷◌, refl, ap, sym, Some}
use Rattle.inc_base.specs.declared.job.Job.{Job}
use Rattle.inc_fs.specs.declared.op.Op.{Op}
use Rattle.inc_fs.specs.declared.op.Op.TheVariants.{OpenLock}
use Rattle.inc_fs.specs.declared.op.Reply.{Reply}
use Rattle.inc_fs.specs.declared.op.Reply.TheVariants.{Handle as GotHandle}
use Rattle.inc_fs.specs.State.{State, Text, IsIn, opened_at, folder_at, lock_at, with_handle}
use Rattle.inc_proto.specs.Views.{own, opening, mode, dir, Dir, dir_after}
use Rattle.inc_laws.specs.Readings.{draws, running, site_of, names_of, opens_of, modes_of, owns_of, dirs_of, sites_of, makers_of}
use Rattle.inc_proto.specs.Views.Opening.{Opened as ByOpen}
use Rattle.inc_proto.specs.Views.Dir.{Unmade, Stands, Removed, Published}
use Rattle.inc_proto.specs.Events.{own_steps}
use Rattle.inc_proto.specs.declared.event.Event.{Event}
use Rattle.inc_proto.specs.declared.event.Event.TheVariants.{Did}
use Rattle.inc_proto.specs.Files.{Files}
use Rattle.inc_laws.specs.Laws.{Laws}
use Rattle.inc_fs.specs.Readings.{bytes_of, locks_of, new_handle}
use Rattle.inc_fs.specs.Points.{with_at}
use Rattle.inc_laws.proofs.Readings.{at_step, no_step}
use Rattle.inc_laws.proofs.Next.{Next, assembled, numbers_did, lock_files_stay, settled_stay, looked_stay}
use Rattle.inc_laws.proofs.Leaves.{opened_handles, unseen}
use Rattle.inc_laws.proofs.NewFile.{opened_own_locks}

module _ (files : Files) (H : List Event) (F : State) (l : Laws files H F) (who : ℕ) (job : Job) (runs : running who H ≡ Some job)
    (krate entry : Text) (h number : ℕ) (found : lock_at F krate entry ≡ Some number) (fresh : ¬ IsIn F.given h) where
  abbrev op : Op
  op = OpenLock krate entry

  abbrev reply : Reply
  reply = GotHandle h

  abbrev G : State
  G = with_handle F who h number

  still : (d : Dir) → dir_after (op, reply) d ≡ d
  still Unmade = refl
  still (Stands krate entry known) = refl
  still Removed = refl
  still (Published krate entry known) = refl

  abbrev next : Next (Did who op reply ∷ H) G
  next = record {
    names = names_of H;
    sites = sites_of H;
    dirs = dirs_of H;
    owns = owns_of H;
    opens = with_at (opens_of H) who (with_at (opens_of H who) h (Some (ByOpen krate entry)));
    modes = modes_of H;
    makers = makers_of H;
    folders = folder_at F;
    lock_files = lock_at F;
    bytes = bytes_of F;
    locks = locks_of F;
    handles = with_at (opened_at F) h (Some (record { owner = who; file = number }));
    names_are = sym (no_step draws who op reply H refl);
    sites_are = sym (no_step (λ s. site_of (dir s)) who op reply H (ap site_of (still (dir (own_steps who H)))));
    dirs_are = sym (no_step dir who op reply H (still (dir (own_steps who H))));
    owns_are = sym (no_step own who op reply H refl);
    opens_are = sym (at_step (λ s g. opening g s) who op reply H);
    modes_are = sym (no_step (λ s h. mode h s) who op reply H refl);
    makers_are = refl;
    folders_are = refl;
    lock_files_are = refl;
    bytes_are = refl;
    locks_are = refl;
    handles_are = new_handle F h who number;
  }

  pub open_keeps : Laws files (Did who op reply ∷ H) G
  open_keeps = assembled files (Did who op reply ∷ H) G next
      (numbers_did H who op reply job l.numbers runs)
      (l.names_once)
      (l.own_names)
      (l.counted)
      (lock_files_stay files H F who op reply l)
      (opened_handles l.handles who h number job (ByOpen krate entry) runs fresh (l.lock_files.entry krate entry number found))
      (opened_own_locks who h (ByOpen krate entry) (unseen l.handles who h number job (ByOpen krate entry) runs fresh (l.lock_files.entry krate entry number found)) l.own_locks)
      (settled_stay files H F who op reply l)
      (l.own_dir)
      (l.dirs)
      (l.file_names)
      (l.sole_names)
      (l.wholes)
      (l.newest)
      (looked_stay files H F who op reply l (λ k e saw. saw))
